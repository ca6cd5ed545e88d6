use Rattle.std.proofs.Common.{◌∙◌, sym}
use Rattle.ga_dates.proofs.NumberLemmas.{lower_name, found_month, only_month, only_found}
use Rattle.ga_dates.proofs.number.named_month.Goals as goal

pub returns-in_err-before-in-len3-clause-only : goal.returns-in_err-before-in-len3-clause-only
returns-in_err-before-in-len3-clause-only c n h =
    let lower = lower_name c.args.piece.now _ _ _ c.in-len3.len_at_least c.in-len3.len_below c.to_ascii_lowercase.ensures.value c.to_ascii_lowercase-in-len3.ensures.value c.to_ascii_lowercase-in-len3-2.ensures.value in
    let place = only_month n c.args.piece.now _ lower h in
    let none = c.in_err-before-in-len3.was in
    cc

pub returns-in_ok-before-in-len3-clause-found : goal.returns-in_ok-before-in-len3-clause-found
returns-in_ok-before-in-len3-clause-found c =
    let lower = lower_name c.args.piece.now _ _ _ c.in-len3.len_at_least c.in-len3.len_below c.to_ascii_lowercase.ensures.value c.to_ascii_lowercase-in-len3.ensures.value c.to_ascii_lowercase-in-len3-2.ensures.value in
    found_month c.in_ok-before-in-len3.before c.args.piece.now _ lower (sym c.months_before.ensures ∙ c.in_ok-before-in-len3.was)

pub returns-in_ok-before-in-len3-clause-only : goal.returns-in_ok-before-in-len3-clause-only
returns-in_ok-before-in-len3-clause-only c n h =
    let lower = lower_name c.args.piece.now _ _ _ c.in-len3.len_at_least c.in-len3.len_below c.to_ascii_lowercase.ensures.value c.to_ascii_lowercase-in-len3.ensures.value c.to_ascii_lowercase-in-len3-2.ensures.value in
    only_found n c.in_ok-before-in-len3.before c.args.piece.now _ lower h (sym c.months_before.ensures ∙ c.in_ok-before-in-len3.was)
