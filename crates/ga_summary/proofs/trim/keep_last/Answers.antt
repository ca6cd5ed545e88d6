use Rattle.std.proofs.Common.{rules, ◌≡◌, Box, Global}
use Rattle.std.specs.Prelude.{filter, nat_le}
use Rattle.std.proofs.lemmas.Fn.{filter_same}
use Rattle.std.proofs.lemmas.List.Elements.{All-filter, All-same}
use Rattle.ga_summary.specs.declared.entry.Entry.{Entry}
use Rattle.ga_summary.specs.Steps.Entries.{IsClosed, rows_of}
use Rattle.ga_summary.specs.Steps.LastDays.{IsBar}
use Rattle.ga_summary.proofs.DayPlaces.{all-kept, last-kept}
use Rattle.ga_summary.proofs.trim.keep_last.Goals as goal

pub returns-then-bar-gt0-clause-rows : goal.returns-then-bar-gt0-clause-rows
returns-then-bar-gt0-clause-rows c =
    let bar : IsBar c.args.keep (rows_of c.args.entries.now.items) c.first_kept-bar.result = rw (← c.deref.ensures.value) c.first_kept-bar.ensures in
    last-kept c.args.keep c.first_kept-bar.result c.args.entries.now.items c.retain.new.self.items bar (filter_same _ _ _ (λ x b f' k. search rules) _ _ c.retain.ensures.filtered)

pub returns-then-bar-gt0-clause-closed : goal.returns-then-bar-gt0-clause-closed
returns-then-bar-gt0-clause-closed c = λ closed.
    let left : c.retain.new.self.items ≡ filter (λ (x : Box Entry Global). nat_le c.first_kept-bar.result x.value.key.date) c.args.entries.now.items = filter_same _ _ _ (λ x b f' k. search rules) _ _ c.retain.ensures.filtered in
    All-same (λ (x : Box Entry Global). IsClosed x.value) c.retain.new.self.items _ left (All-filter (λ (x : Box Entry Global). nat_le c.first_kept-bar.result x.value.key.date) (λ (x : Box Entry Global). IsClosed x.value) c.args.entries.now.items closed)

pub returns-else-bar-gt0-clause-rows : goal.returns-else-bar-gt0-clause-rows
returns-else-bar-gt0-clause-rows c =
    let bar : IsBar c.args.keep (rows_of c.args.entries.now.items) c.first_kept-bar.result = rw (← c.deref.ensures.value) c.first_kept-bar.ensures in
    all-kept c.args.keep c.first_kept-bar.result (rows_of c.args.entries.now.items) bar c.if-bar-gt0.false
