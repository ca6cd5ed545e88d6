use Rattle.std.proofs.Common.{List, ℕ, subst, Ok}
use Rattle.std.proofs.lemmas.Result.{err_from_is_err_and}
use Rattle.ga_dates.specs.declared.kind.Kind.TheVariants.{Time}
use Rattle.ga_dates.specs.Grammar.{IsFormat}
use Rattle.ga_dates.proofs.OneFormat.{only_format, only_fault, only_format_err, only_fault_err}
use Rattle.ga_dates.proofs.format.compile_time.Goals as goal

pub returns-in_err-compile-clause-only_format : goal.returns-in_err-compile-clause-only_format
returns-in_err-compile-clause-only_format c items f =
    only_format_err Time c.args.text.now _ _ _ (err_from_is_err_and c.from_residual.result c.from_residual.ensures.1) c.bytes.ensures.value c.in_err-compile.ensures.fault items f

pub returns-in_err-compile-clause-only_fault : goal.returns-in_err-compile-clause-only_fault
returns-in_err-compile-clause-only_fault c at h =
    only_fault_err Time c.args.text.now _ _ _ (err_from_is_err_and c.from_residual.result c.from_residual.ensures.1) c.bytes.ensures.value c.in_err-compile.ensures.fault at h

pub returns-clause-only_format : goal.returns-clause-only_format
returns-clause-only_format c items f =
    only_format Time c.args.text.now (Ok _) (subst (λ (s : List ℕ). IsFormat Time s c.in_ok-compile.field-0.items) c.bytes.ensures.value c.in_ok-compile.ensures.format) tt items f

pub returns-clause-only_fault : goal.returns-clause-only_fault
returns-clause-only_fault c at h =
    only_fault Time c.args.text.now (Ok _) (subst (λ (s : List ℕ). IsFormat Time s c.in_ok-compile.field-0.items) c.bytes.ensures.value c.in_ok-compile.ensures.format) tt at h
