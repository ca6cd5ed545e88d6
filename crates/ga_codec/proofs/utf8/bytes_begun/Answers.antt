use Rattle.std.proofs.Common.{◌∙◌, sym, inl, inr, arith}
use Rattle.ga_codec.proofs.Texts.{stop_0, stop_1, stop_2, stop_3}
use Rattle.ga_codec.proofs.utf8.bytes_begun.Goals as goal

pub returns-then-char_size-eq0 : goal.returns-then-char_size-eq0
returns-then-char_size-eq0 c = stop_0 c.args.size c.args.bytes.now c.requires.no_char (inl (sym c.char_size-char_size.ensures ∙ c.if-char_size-eq0.true))

pub returns-then-size-char_size : goal.returns-then-size-char_size
returns-then-size-char_size c = stop_0 c.args.size c.args.bytes.now c.requires.no_char (inr (omega (arith, c.char_size-char_size.ensures, c.if-size-char_size.true)))

pub returns-then-bytes-lt2 : goal.returns-then-bytes-lt2
returns-then-bytes-lt2 c =
    let size = c.char_size-char_size.ensures in
    stop_1 c.args.size c.args.bytes.now c.requires.no_char c.requires.some (λ e. c.if-char_size-eq0.false (size ∙ e)) (omega (arith, size, c.if-size-char_size.false)) (inl c.if-bytes-lt2.true)

pub returns-then-not-may_follow : goal.returns-then-not-may_follow
returns-then-not-may_follow c =
    let size = c.char_size-char_size.ensures in
    stop_1 c.args.size c.args.bytes.now c.requires.no_char c.requires.some (λ e. c.if-char_size-eq0.false (size ∙ e)) (omega (arith, size, c.if-size-char_size.false))
    (inr (sym c.may_follow.ensures ∙ c.if-not-may_follow.true))

pub returns-then-bytes-lt3 : goal.returns-then-bytes-lt3
returns-then-bytes-lt3 c =
    let size = c.char_size-char_size.ensures in
    stop_2 c.args.size c.args.bytes.now c.requires.no_char c.if-bytes-lt2.false (λ e. c.if-char_size-eq0.false (size ∙ e)) (omega (arith, size, c.if-size-char_size.false))
    (sym c.may_follow.ensures ∙ c.if-not-may_follow.false) (inl c.if-bytes-lt3.true)

pub returns-then-not-continues : goal.returns-then-not-continues
returns-then-not-continues c =
    let size = c.char_size-char_size.ensures in
    stop_2 c.args.size c.args.bytes.now c.requires.no_char c.if-bytes-lt2.false (λ e. c.if-char_size-eq0.false (size ∙ e)) (omega (arith, size, c.if-size-char_size.false))
    (sym c.may_follow.ensures ∙ c.if-not-may_follow.false) (inr (sym c.continues.ensures ∙ c.if-not-continues.true))

pub returns : goal.returns
returns c =
    let size = c.char_size-char_size.ensures in
    stop_3 c.args.size c.args.bytes.now c.requires.no_char c.if-bytes-lt3.false (λ e. c.if-char_size-eq0.false (size ∙ e)) (omega (arith, size, c.if-size-char_size.false))
    (sym c.may_follow.ensures ∙ c.if-not-may_follow.false) (sym c.continues.ensures ∙ c.if-not-continues.false)
