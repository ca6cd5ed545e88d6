use Rattle.std.proofs.Common.{sym, ◌∙◌}
use Rattle.std.proofs.lemmas.Bool.{false≢true}
use Rattle.ga_base.specs.Layers.{day_key}
use Rattle.ga_summary.specs.SummaryParts.{row_of_part}
use Rattle.ga_summary.proofs.PassRow.{stands, has_day_row, has_visitors, forms_upto, names_upto, decided}
use Rattle.ga_summary.proofs.first_bad.pass_row.Goals as goal

pub returns-then-not-stands_alone : goal.returns-then-not-stands_alone
returns-then-not-stands_alone c =
    let row = c.index-rows-at in
    λ good. false≢true (sym c.if-not-stands_alone.true ∙ c.stands_alone.ensures.1 (stands c.args.rows.now c.args.at row.result c.requires.within row.is good))

pub day_row-requires : goal.day_row-requires
day_row-requires c =
    let row = c.index-rows-at in
    let alone = c.stands_alone.ensures.0 c.if-not-stands_alone.false in
    record { rising = c.key_rises.ensures.0 c.if-not-key_rises.false; formed = forms_upto c.args.rows.now c.args.at row.result c.requires.within row.is c.requires.good alone }

pub returns-in_err-day : goal.returns-in_err-day
returns-in_err-day c =
    let row = c.index-rows-at in
    rw (c.from_residual.ensures) (λ good. has_day_row c.args.rows.now c.args.at row.result c.requires.within row.is good c.in_err-day.ensures)

pub all_among-requires-clause-rising_among : goal.all_among-requires-clause-rising_among
all_among-requires-clause-rising_among c =
    let row = c.index-rows-at in
    let alone = c.stands_alone.ensures.0 c.if-not-stands_alone.false in
    rw (c.items-2.ensures) (names_upto c.args.rows.now c.args.at row.result c.requires.within row.is c.requires.good alone (day_key row.result.key.date) (row_of_part c.in_ok-day.day.now) c.in_ok-day.ensures)

pub returns-then-not-all_among : goal.returns-then-not-all_among
returns-then-not-all_among c =
    let row = c.index-rows-at in
    let told = rw (c.items.ensures, c.items-2.ensures) at c.all_among.ensures in
    λ good. false≢true (sym c.if-not-all_among.true ∙ told.1 (has_visitors c.args.rows.now c.args.at row.result c.requires.within row.is good (row_of_part c.in_ok-day.day.now) c.in_ok-day.ensures))

pub returns : goal.returns
returns c =
    let row = c.index-rows-at in
    let alone = c.stands_alone.ensures.0 c.if-not-stands_alone.false in
    let told = rw (c.items.ensures, c.items-2.ensures) at c.all_among.ensures in
    decided c.args.rows.now c.args.at row.result c.requires.within row.is c.requires.good alone (c.key_rises.ensures.0 c.if-not-key_rises.false) c.args.sums c.requires.sums
    (row_of_part c.in_ok-day.day.now) c.in_ok-day.ensures (told.0 c.if-not-all_among.false) c.add.result (rw (c.of_sums.ensures, c.of_sums-2.ensures) at c.add.ensures)
