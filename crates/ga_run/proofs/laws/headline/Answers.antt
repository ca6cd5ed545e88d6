use Rattle.ga_one_run.proofs.WordLaw.{one-words}
use Rattle.ga_run.proofs.Promises.{headline}
use Rattle.ga_run.proofs.laws.headline.Goals as goal

pub returns : goal.returns
returns c = headline (record {
  database = c.one_database.ensures;
  merged = c.merged_sums.ensures;
  last_days = c.trimmed_merge.ensures;
  as_told = c.read_as_told.ensures.all;
  words = one-words c.joined_words.ensures.one;
  scan = c.one_scan.ensures.one;
  scanned = c.one_scan.ensures.some;
  conf = c.one_conf.ensures.words;
  files = c.files_stay.ensures;
  crash = c.a_crash_leaves_an_image.ensures;
  settled = c.a_crash_is_settled.ensures;
})
