use Rattle.std.proofs.Common.{◌≡◌, ◌+◌, ◌∷◌, ◌++◌, ◌∙◌, [], suc, sym, ap, subst, take, drop, take_all, arith, slice_index_or}
use Rattle.std.proofs.lemmas.Result.{err_from_is_err_and}
use Rattle.ga_ports.specs.Trace.FilesTrace.{no_files_call, files_then}
use Rattle.ga_logs.specs.Counting.{CountingStart}
use Rattle.ga_logs.specs.Steps.Logs.{HasCountedLogs}
use Rattle.ga_logs.proofs.LogsSteps.{take-more, split-at, split-there, taken-length, counted-none, counted-more, none-failed-log, stops-full, stops-more, wants-none}
use Rattle.ga_logs.proofs.ReadSteps.{serves-one}
use Rattle.ga_logs.proofs.logs.count_all.Goals as goal

pub loop-place-init : goal.loop-place-init
loop-place-init g c = record {
  within = omega arith;
  start = c.in_ok-count_generated.ensures.start ∙ c.requires.begun;
  counted = counted-none c.args.crew.now.setup.now c.args.start c.args.generated c.args.entries.now _ c.args.counting.now c.count_generated.new.counting (ap (λ (s : CountingStart). s.totals) c.requires.begun)
      c.requires.none c.in_ok-count_generated.ensures;
  went = no_files_call;
}

pub returns-in_err-count_generated-clause-calls : goal.returns-in_err-count_generated-clause-calls
returns-in_err-count_generated-clause-calls g c = no_files_call

pub returns-in_err-count_generated-clause-stops : goal.returns-in_err-count_generated-clause-stops
returns-in_err-count_generated-clause-stops g c =
    let p = err_from_is_err_and c.from_residual.result c.from_residual.ensures.1 in
    rw (p.1, p.2) (wants-none c.args.crew.now.setup.now c.args.start c.args.generated c.args.names.now c.args.entries.now _)

pub returns-in-Some-clause-stops : goal.returns-in-Some-clause-stops
returns-in-Some-clause-stops g c =
    let names = c.args.names.now in
    let place = c.loop-place.place in
    rw (c.from.ensures) (stops-full c.args.crew.now.setup.now c.args.start c.args.generated names (take place names) (drop place names) (split-there names place) c.args.entries.now _ _ _ c.loop-place.counting
    c.loop-place.invariant.counted c.in-Some.full (sym c.full.ensures ∙ c.in-Some.is))

pub count_one-requires-clause-counted : goal.count_one-requires-clause-counted
count_one-requires-clause-counted g c = λ _ _. (_, c.loop-place.invariant.counted.counted)

pub returns-in-Err-clause-stops : goal.returns-in-Err-clause-stops
returns-in-Err-clause-stops g c =
    let names = c.args.names.now in
    let place = c.loop-place.place in
    let at : slice_index_or names place c.index-names-place.result ≡ c.index-names-place.result = sym c.index-names-place.is in
    let split : names ≡ take place names ++ c.index-names-place.result ∷ drop (suc place) names =
    split-at names place c.index-names-place.result c.loop-place-test.true ∙ ap (λ name. take place names ++ name ∷ drop (suc place) names) at in
    rw c.of_log.ensures
    (stops-more c.args.crew.now.setup.now c.args.start c.args.generated names (take place names) (drop (suc place) names) c.index-names-place.result split _ _ _ _ _ c.loop-place.counting c.loop-place.invariant.counted
    (sym c.full.ensures ∙ c.in_default.is) place _ (taken-length names place c.loop-place.invariant.within) c.in-Err.ensures.stops)

pub returns-in-Err-clause-sure : goal.returns-in-Err-clause-sure
returns-in-Err-clause-sure g c =
    let view = g.F.Files.view in
    let names = c.args.names.now in
    let place = c.loop-place.place in
    let at : slice_index_or names place c.index-names-place.result ≡ c.index-names-place.result = sym c.index-names-place.is in
    let split : names ≡ take place names ++ c.index-names-place.result ∷ drop (suc place) names =
    split-at names place c.index-names-place.result c.loop-place-test.true ∙ ap (λ name. take place names ++ name ∷ drop (suc place) names) at in
    λ can. rw c.of_log.ensures (none-failed-log _ _ (c.in-Err.ensures.sure (serves-one names (take place names) (drop (suc place) names) c.index-names-place.result (view c.args.files.now) (view c.loop-place.files)
    split (c.files_stay.ensures _ _ c.loop-place.invariant.went) can)))

pub returns-in-Err-clause-calls : goal.returns-in-Err-clause-calls
returns-in-Err-clause-calls g c = files_then c.loop-place.invariant.went c.count_one.ensures.calls

pub loop-place-preserved : goal.loop-place-preserved
loop-place-preserved g c =
    let names = c.args.names.now in
    let place = c.loop-place.place in
    let view = g.F.Files.view in
    let at : slice_index_or names place c.index-names-place.result ≡ c.index-names-place.result = sym c.index-names-place.is in
    let next : take (place + 1) names ≡ take place names ++ c.index-names-place.result ∷ [] =
    take-more names place c.index-names-place.result c.loop-place-test.true ∙ ap (λ name. take place names ++ name ∷ []) at in
    record {
      within = omega arith;
      start = c.in-Ok.ensures.ok.adds.start ∙ c.loop-place.invariant.start;
      counted = subst (λ front. HasCountedLogs c.args.crew.now.setup.now c.args.start c.args.generated front c.args.entries.now c.count_one.new.entries (view c.args.files.now) (view c.count_one.new.files) c.count_one.new.counting) (sym next)
          (counted-more c.args.crew.now.setup.now c.args.start c.args.generated (take place names) c.index-names-place.result c.args.entries.now c.loop-place.entries c.count_one.new.entries (view c.args.files.now) (view c.loop-place.files) (view c.count_one.new.files) c.loop-place.counting c.count_one.new.counting c.loop-place.invariant.counted c.in-Ok.ensures.ok);
      went = files_then c.loop-place.invariant.went c.count_one.ensures.calls;
    }

pub returns-clause-ok : goal.returns-clause-ok
returns-clause-ok g c =
    let view = g.F.Files.view in
    let names = c.args.names.now in
    let whole : take c.loop-place.place names ≡ names = take_all c.loop-place.place names (omega arith) in
    subst (λ front. HasCountedLogs c.args.crew.now.setup.now c.args.start c.args.generated front c.args.entries.now c.loop-place.entries (view c.args.files.now) (view c.loop-place.files) c.loop-place.counting) whole
    c.loop-place.invariant.counted
