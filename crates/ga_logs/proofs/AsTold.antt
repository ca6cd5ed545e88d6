-- Logs that were read, where their contents are told.
use Rattle.std.proofs.Common.{◌≡◌, ◌≢◌, ℕ, false, List, [], ◌∷◌, refl, ap, subst, Option, Some, None, IfSome, is_none}
use Rattle.ga_base.specs.declared.entry.Entry.{Entry}
use Rattle.ga_ports.specs.Files.{Contents, FilesView, content_of, told, is_absent}
use Rattle.ga_logs.specs.Following.{AreSomeTold, AreTold, ReadsAll, ReadsPortion, ReadsSome}
use Rattle.ga_logs.specs.Following.AreSomeTold.{told_none, told_last, told_on}
use Rattle.ga_logs.specs.Following.AreTold.{told_all, told_then}
use Rattle.ga_logs.specs.Following.ReadsAll.{read_all, read_then}
use Rattle.ga_logs.specs.Following.ReadsSome.{read_none, read_last, read_on}
use Rattle.ga_logs.specs.Portions.{IsPortionOf}
use Rattle.ga_resume.specs.declared.follow.Follow.{Follow}
use Rattle.ga_logs.specs.declared.portion.Portion.{Portion}

-- what is there of a name that is told and not absent
there : (name : List ℕ) (contents : Option Contents) → contents ≢ None → is_absent name contents ≡ false → (log : List ℕ) × (told name contents ≡ Some log)
there name None all here = absurd (all refl)
there name (Some contents) all here = by-found (content_of name contents) refl here
  where
    by-found : (o : Option (List ℕ)) → content_of name contents ≡ o → is_none o ≡ false → (log : List ℕ) × (content_of name contents ≡ Some log)
    by-found None e h = absurd (cc h)
    by-found (Some log) e h = (log, e)

-- what was read of it is its portion
as-told : (follow : Follow) (es : List Entry) (name : List ℕ) (a b : FilesView) (p : Portion) → ReadsPortion follow es name a b p → (log : List ℕ) → told name a.contents ≡ Some log
    → IsPortionOf follow es log p
as-told follow es name a b p reads log is = subst (λ (o : Option (List ℕ)). IfSome o (λ bytes. IsPortionOf follow es bytes p)) is reads.told

-- contents stay
same : (follow : Follow) (es : List Entry) (name : List ℕ) (a b : FilesView) (p : Portion) → ReadsPortion follow es name a b p → b.contents ≡ a.contents
same follow es name a b p reads = ap (λ (v : FilesView). v.contents) reads.asks.others

pub all-told : (follow : Follow) (names : List (List ℕ)) (old new : List Entry) (a c : FilesView) (ps : List Portion) → ReadsAll follow names old new a c ps → a.contents ≢ None
    → AreTold follow a.contents names old new ps
all-told follow [] old new a c ps read_all told_here = told_all
all-told follow (name ∷ names) old new a c ps (read_then {mid = mid} {between = b} {portion = p} {portions = rest} reads goes more) all =
    let log = there name a.contents all reads.present in
    let stay = same follow old name a b p reads in
    told_then log.1 (as-told follow old name a b p reads log.0 log.1) goes (rw (← stay) (all-told follow names mid new b c rest more (rw stay all)))

pub some-told : (follow : Follow) (names : List (List ℕ)) (old : List Entry) (a c : FilesView) (ps : List Portion) → ReadsSome follow names old a c ps → a.contents ≢ None
    → AreSomeTold follow a.contents names old ps
some-told follow names old a c ps read_none all = told_none
some-told follow (name ∷ names) old a c ps (read_last {portion = p} reads) all =
    let log = there name a.contents all reads.present in
    told_last log.1 (as-told follow old name a c p reads log.0 log.1)
some-told follow (name ∷ names) old a c ps (read_on {mid = mid} {between = b} {portion = p} {portions = rest} reads goes more) all =
    let log = there name a.contents all reads.present in
    let stay = same follow old name a b p reads in
    told_on log.1 (as-told follow old name a b p reads log.0 log.1) goes (rw (← stay) (some-told follow names mid b c rest more (rw stay all)))
