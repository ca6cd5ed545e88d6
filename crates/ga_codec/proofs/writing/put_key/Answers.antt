use Rattle.std.specs.Int.{w32}
use Rattle.ga_codec.specs.Steps.Grammar.{number, text, panel}
use Rattle.ga_codec.proofs.Fields.{key_2, key_3, key_4, key_5, key_made}
use Rattle.ga_codec.proofs.Written.{wrote_then, wrote_made, wrote_panel}
use Rattle.ga_codec.proofs.writing.put_key.Goals as goal

pub returns : goal.returns
returns c =
    let w5 = wrote_then text (λ _. text) c.in_ok-put_text-3.ensures c.in_ok-put_text-4.ensures in
    let w4 = wrote_then text (λ _. key_5) c.in_ok-put_text-2.ensures w5 in
    let w3 = wrote_then text (λ _. key_4) c.in_ok-put_text.ensures w4 in
    let w2 = wrote_then (number w32) (λ _. key_3) c.in_ok-put_u32.ensures w3 in
    let w1 = wrote_panel c.args.key.now.panel c.panel_byte.result c.args.out.now.items c.push.new.self.items c.panel_byte.ensures c.in_ok-push.ensures.items in
    wrote_made key_made (wrote_then panel (λ _. key_2) w1 w2)
