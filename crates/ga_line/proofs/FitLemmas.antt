-- One item of fitting a line: what fits all items is what fits those that are left, after the fields that are read.
use Rattle.std.proofs.Common.{◌≡◌, ℕ, suc, ◌+◌, ◌<◌, List, [], ◌∷◌, ◌++◌, length, drop, get_or, refl, sym, ap, ◌∙◌, subst, ⊎_elim, inl, inr, Option, Some, None, append_assoc, append-nil, zero, add-one, drop-cons}
use Rattle.std.specs.List.{slice_get}
use Rattle.ga_base.specs.declared.formats.FormatItem.{FormatItem}
use Rattle.ga_base.specs.declared.formats.FormatItem.TheVariants.{Literal, Skip, Field, Forwarded}
use Rattle.bstr.specs.Bytes.{is_in}
use Rattle.ga_line.specs.Fits.{Part, Fits, SkipsSpace, host_part}
use Rattle.ga_line.specs.Steps.Fitting.{IsReadTo, EndsBefore, EndsLine}
use Rattle.ga_line.specs.Steps.Forwarding.{Forwards, IsLastOf}
use Rattle.ga_line.proofs.FreeLemmas.{EndsAt-unique}
use Rattle.ga_line.proofs.UniqueFits.{SkipsSpace-unique, forwarded-unique}

pub read-none : (items : List FormatItem) (line : List ℕ) → IsReadTo items line items line []
read-none items line = record { back = λ later f. f; only = λ parts f. (parts, f, refl) }

cons-tail : (x y : ℕ) (xs ys : List ℕ) → x ∷ xs ≡ y ∷ ys → xs ≡ ys
cons-tail x y xs ys e = cc

Some≢None : {x : List ℕ} → Some x ≡ None → ⊥
Some≢None e = cc

same-Some : {x y : List ℕ} → Some x ≡ Some y → x ≡ y
same-Some e = cc

-- where the next item is at the front of those that are left
abbrev pub next_of : List FormatItem → Option FormatItem
next_of [] = None
next_of (item ∷ items) = Some item

module _ (items : List FormatItem) (line : List ℕ) (before : List Part) (later_items : List FormatItem) (rest : List ℕ) where
  pub read-literal : (byte : ℕ) (after : List ℕ) → rest ≡ byte ∷ after → IsReadTo items line (Literal byte ∷ later_items) rest before → IsReadTo items line later_items after before
  read-literal byte after begins to = record {
    back = λ later f. to.back later (after, begins, f);
    only = λ parts f.
        let o = to.only parts f in
        let same : o.1.0 ≡ after = cons-tail _ _ _ _ (sym o.1.1 ∙ begins) in
        (o.0, subst (λ a. Fits later_items a o.0) same o.1.2, o.2);
  }

  pub read-space : (after : List ℕ) → SkipsSpace rest after → IsReadTo items line (Skip ∷ later_items) rest before → IsReadTo items line later_items after before
  read-space after skips to = record {
    back = λ later f. to.back later (after, skips, f);
    only = λ parts f.
        let o = to.only parts f in
        (o.0, subst (λ a. Fits later_items a o.0) (SkipsSpace-unique rest o.1.0 after o.1.1 skips) o.1.2, o.2);
  }

  pub read-misfit : (byte : ℕ) → ((after : List ℕ) → rest ≡ byte ∷ after → ⊥) → IsReadTo items line (Literal byte ∷ later_items) rest before → (parts : List Part) → ¬ Fits items line parts
  read-misfit byte none to parts f = let o = to.only parts f in none o.1.0 o.1.1

  module _ (separators : List ℕ) (to : IsReadTo items line (Forwarded separators ∷ later_items) rest before) where
    pub read-forwarded : (host : Option (List ℕ)) (after : List ℕ) → Forwards (next_of later_items) separators rest host (Some after) → IsReadTo items line later_items after (before ++ host_part host)
    read-forwarded host after has = go later_items to has
      where
        go : (left : List FormatItem) → IsReadTo items line (Forwarded separators ∷ left) rest before → Forwards (next_of left) separators rest host (Some after) → IsReadTo items line left after (before ++ host_part host)
        go [] to has = absurd (Some≢None has.3)
        go (Skip ∷ left) to has = absurd (Some≢None has.3)
        go (Field letter ∷ left) to has = absurd (Some≢None has.3)
        go (Forwarded others ∷ left) to has = absurd (Some≢None has.3)
        go (Literal stop ∷ left) to (behind, is, has) = subst (λ (a : List ℕ). IsReadTo items line (Literal stop ∷ left) a (before ++ host_part host)) (sym is) (record {
          back = λ later f.
              let fits : Fits left behind later = subst (λ (a : List ℕ). Fits left a later) (cons-tail _ _ _ _ (sym f.1)) f.2 in
              subst (Fits items line) (sym (append_assoc before (host_part host) later)) (to.back (host_part host ++ later) (inr (host, behind, later, has, refl, fits)));
          only = λ parts f.
              let o = to.only parts f in
              ⊎_elim
              (λ whole. absurd (Some≢None (forwarded-unique (is_in separators stop) separators stop rest host (Some behind) whole.0 None has whole.1).1))
              (λ cut.
              let same = forwarded-unique (is_in separators stop) separators stop rest cut.0 (Some cut.1) host (Some behind) cut.3 has in (
                cut.2,
                (cut.1, ap (λ (a : List ℕ). stop ∷ a) (sym (same-Some same.1)), cut.5),
                o.2 ∙ ap (λ (ps : List Part). before ++ ps) (cut.4 ∙ ap (λ (h : Option (List ℕ)). host_part h ++ cut.2) same.0) ∙ sym (append_assoc before (host_part host) cut.2),
              ))
              o.1;
        })

    -- the field is the last that is asked for
    pub read-forwarded-end : (host : Option (List ℕ)) → Forwards (next_of later_items) separators rest host None → Fits items line (before ++ host_part host)
    read-forwarded-end host has = to.back (host_part host) (go later_items has)
      where
        last : (left : List FormatItem) → IsLastOf separators rest host None → Fits (Forwarded separators ∷ []) rest (host_part host)
        last left (first, after, is, none, (text, chain)) = (first, text, after, chain, ap host_part is)

        go : (left : List FormatItem) → Forwards (next_of left) separators rest host None → Fits (Forwarded separators ∷ left) rest (host_part host)
        go [] has = last [] has
        go (Skip ∷ left) has = last [] has
        go (Field letter ∷ left) has = last [] has
        go (Forwarded others ∷ left) has = last [] has
        go (Literal stop ∷ left) has = inl (host, has, refl)

    pub read-unforwarded : ((host after : Option (List ℕ)) → ¬ Forwards (next_of later_items) separators rest host after) → (parts : List Part) → ¬ Fits items line parts
    read-unforwarded none parts f = go later_items none (to.only parts f).0 (to.only parts f).1
      where
        last : ((host after : Option (List ℕ)) → ¬ IsLastOf separators rest host after) → (later : List Part) → ¬ Fits (Forwarded separators ∷ []) rest later
        last none later f = none (Some f.0) None (f.0, f.2, refl, refl, (f.1, f.3))

        go : (left : List FormatItem) → ((host after : Option (List ℕ)) → ¬ Forwards (next_of left) separators rest host after) → (later : List Part) → ¬ Fits (Forwarded separators ∷ left) rest later
        go [] none later f = last none later f
        go (Skip ∷ left) none later f = last none later f
        go (Field letter ∷ left) none later f = last none later f
        go (Forwarded others ∷ left) none later f = last none later f
        go (Literal stop ∷ left) none later (inl whole) = none whole.0 None whole.1
        go (Literal stop ∷ left) none later (inr cut) = none cut.0 (Some (stop ∷ cut.1)) (cut.1, refl, cut.3)

  module _ (letter : ℕ) (to : IsReadTo items line (Field letter ∷ later_items) rest before) where
    pub read-field : (text after : List ℕ) → EndsBefore (next_of later_items) rest text after → IsReadTo items line later_items after (before ++ (letter, text) ∷ [])
    read-field text after ends = go later_items to ends
      where
        go : (left : List FormatItem) → IsReadTo items line (Field letter ∷ left) rest before → EndsBefore (next_of left) rest text after → IsReadTo items line left after (before ++ (letter, text) ∷ [])
        go [] to ends = let none : None ≡ Some (Literal ends.stop) = ends.next_is in absurd cc
        go (item ∷ left) to ends =
            let is : item ≡ Literal ends.stop = cc in
            let there = subst (λ (x : FormatItem). IsReadTo items line (Field letter ∷ x ∷ left) rest before) is to in
            let to_stop : IsReadTo items line (Literal ends.stop ∷ left) (ends.stop ∷ ends.behind) (before ++ (letter, text) ∷ []) = record {
              back = λ later f.
                  let fits : Fits left ends.behind later = subst (λ (a : List ℕ). Fits left a later) (cons-tail _ _ _ _ (sym f.1)) f.2 in
                  subst (Fits items line) (sym (append_assoc before ((letter, text) ∷ []) later)) (there.back ((letter, text) ∷ later) (inr (text, ends.behind, later, ends.ends, refl, fits)));
              only = λ parts f.
                  let o = there.only parts f in
                  ⊎_elim
                  (λ never. absurd (never.0 text ends.behind ends.ends))
                  (λ cut.
                  let same = EndsAt-unique ends.stop rest cut.0 cut.1 text ends.behind cut.3 ends.ends in (
                    cut.2,
                    (cut.1, ap (λ (a : List ℕ). ends.stop ∷ a) (sym same.1), cut.5),
                    o.2 ∙ ap (λ (ps : List Part). before ++ ps) (cut.4 ∙ ap (λ (t : List ℕ). (letter, t) ∷ cut.2) same.0) ∙ sym (append_assoc before ((letter, text) ∷ []) cut.2),
                  ))
                  o.1;
            } in
            subst (λ (x : FormatItem). IsReadTo items line (x ∷ left) after (before ++ (letter, text) ∷ [])) (sym is)
            (subst (λ (a : List ℕ). IsReadTo items line (Literal ends.stop ∷ left) a (before ++ (letter, text) ∷ [])) (sym ends.after_is) to_stop)

    -- the field goes up to the end of the line
    pub read-to-end : EndsLine (next_of later_items) rest → Fits items line (before ++ (letter, rest) ∷ [])
    read-to-end ends = to.back ((letter, rest) ∷ []) (go later_items ends)
      where
        go : (left : List FormatItem) → EndsLine (next_of left) rest → Fits (Field letter ∷ left) rest ((letter, rest) ∷ [])
        go [] ends = refl
        go (Literal stop ∷ left) ends = inl (ends stop refl, refl)
        go (Skip ∷ left) ends = refl
        go (Field other ∷ left) ends = refl
        go (Forwarded separators ∷ left) ends = refl

-- no item is left
pub read-all : (items : List FormatItem) (line rest : List ℕ) (before : List Part) → IsReadTo items line [] rest before → Fits items line before
read-all items line rest before to = subst (Fits items line) (append-nil before) (to.back [] refl)

-- the items from a place on, and the one after it
pub left-at : (items : List FormatItem) (at : ℕ) (d item : FormatItem) → at < length items → get_or items at d ≡ item → drop at items ≡ item ∷ drop (at + 1) items
left-at items at d item lt is = rw add-one (drop-cons items at d lt ∙ ap (λ (x : FormatItem). x ∷ drop (suc at) items) is)

pub next-at : (items : List FormatItem) (at : ℕ) → slice_get items (at + 1) ≡ next_of (drop (at + 1) items)
next-at items at = go items (at + 1)
  where
    go : (items : List FormatItem) (n : ℕ) → slice_get items n ≡ next_of (drop n items)
    go [] zero = refl
    go [] (suc n) = refl
    go (x ∷ items) zero = refl
    go (x ∷ items) (suc n) = go items n

-- the next item and the separators, as they are found at a place
pub forwards-here : (items : List FormatItem) (at : ℕ) (separators rest : List ℕ) (host after : Option (List ℕ)) (next : Option FormatItem) (bytes : List ℕ) → next ≡ slice_get items (at + 1) → bytes ≡ separators
    → Forwards next bytes rest host after → Forwards (next_of (drop (at + 1) items)) separators rest host after
forwards-here items at separators rest host after next bytes is same has =
    subst (λ (n : Option FormatItem). Forwards n separators rest host after) (is ∙ next-at items at) (subst (λ (s : List ℕ). Forwards next s rest host after) same has)

pub forwards-nowhere : (items : List FormatItem) (at : ℕ) (separators rest : List ℕ) (next : Option FormatItem) (bytes : List ℕ) → next ≡ slice_get items (at + 1) → bytes ≡ separators
    → ((host after : Option (List ℕ)) → ¬ Forwards next bytes rest host after) → (host after : Option (List ℕ)) → ¬ Forwards (next_of (drop (at + 1) items)) separators rest host after
forwards-nowhere items at separators rest next bytes is same none host after has =
    none host after (subst (λ (s : List ℕ). Forwards next s rest host after) (sym same) (subst (λ (n : Option FormatItem). Forwards n separators rest host after) (sym (is ∙ next-at items at)) has))
