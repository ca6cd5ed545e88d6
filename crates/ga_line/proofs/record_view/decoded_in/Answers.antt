use Rattle.std.proofs.Common.{List, ℕ, ◌≡◌, sym, subst}
use Rattle.std.specs.Cow.{cow_str_bytes}
use Rattle.std.specs.Result.{IfOk}
use Rattle.ga_line.specs.Records.{decodings}
use Rattle.ga_line.proofs.PlainUrls.{plain-url}
use Rattle.ga_line.proofs.record_view.decoded_in.Goals as goal

pub returns-then-is_none-clause-value : goal.returns-then-is_none-clause-value
returns-then-is_none-clause-value c =
    subst (λ (bytes : List ℕ). IfOk c.utf8_in.result (λ url. cow_str_bytes url ≡ bytes))
    (sym (plain-url (decodings c.args.setup.now) c.args.bytes.now c.memchr.result c.is_none.result c.memchr.ensures c.is_none.ensures c.if-is_none.true)) c.utf8_in.ensures.value
