use Rattle.std.proofs.Common.{ℕ, ◌+◌, ◌-◌, ◌≤◌, List, length, take, sym, subst, arith}
use Rattle.std.specs.Str.{StartsWithNoChar, IsValidUpTo}
use Rattle.std.proofs.lemmas.List.{take_rest, length-take}
use Rattle.ga_codec.specs.Shapes.{IsLongest}
use Rattle.ga_codec.specs.Steps.Utf8.{IsTextOf}
use Rattle.ga_codec.proofs.Texts.{front_is, text_ended, text_wrong, longest_past, no_char_behind}
use Rattle.ga_codec.proofs.cursor.Cursor.read_utf8.Goals as goal

pub returns-then-front-size : goal.returns-then-front-size
returns-then-front-size c =
    let same = front_is c.min.result c.args.size c.rest-rest.result.now c.args.self.now.rest c.min.ensures c.rest-rest.ensures.rest in
    rw c.fault_at_end.ensures (text_ended c.args.size c.args.self.now _ same c.in-Ok.ensures.cases.1 c.if-front-size.true)

pub bytes_begun-requires-clause-no_char : goal.bytes_begun-requires-clause-no_char
bytes_begun-requires-clause-no_char c =
    let front = take c.min.result c.rest-rest.result.now in
    let valid = c.valid_up_to-valid.result in
    let upto = subst (λ (n : ℕ). IsValidUpTo front n) (sym c.valid_up_to-valid.ensures) c.in-Err.ensures.cases.1 in
    subst (λ (t : List ℕ). StartsWithNoChar t) (sym (take_rest front valid)) (no_char_behind front valid upto)

pub returns-in-Err : goal.returns-in-Err
returns-in-Err c =
    let same = front_is c.min.result c.args.size c.rest-rest.result.now c.args.self.now.rest c.min.ensures c.rest-rest.ensures.rest in
    let front = take c.min.result c.rest-rest.result.now in
    let valid = c.valid_up_to-valid.result in
    let upto = subst (λ (n : ℕ). IsValidUpTo front n) (sym c.valid_up_to-valid.ensures) c.in-Err.ensures.cases.1 in
    let begun = subst (λ (t : List ℕ). IsLongest (IsTextOf (c.args.size - valid)) t c.bytes_begun.result) (take_rest front valid) c.bytes_begun.ensures in
    let size : length front ≤ c.args.size = omega (arith, c.min.ensures, length-take c.min.result c.rest-rest.result.now) in
    rw c.fault.ensures (text_wrong c.args.size c.args.self.now front same (valid + c.bytes_begun.result) c.in-Err.ensures.cases.0
    (longest_past c.args.size front valid c.bytes_begun.result size upto begun))
