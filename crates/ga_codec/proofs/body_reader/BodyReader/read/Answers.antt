use Rattle.std.proofs.Common.{◌≡◌, ◌++◌, Some, Err, ◌∙◌, sym, subst}
use Rattle.std.proofs.lemmas.Result.{err_from_is_err_and}
use Rattle.std.specs.Option.{option_map}
use Rattle.std.specs.Prelude.{MatchOption}
use Rattle.ga_summary.specs.SummaryParts.{rows_in}
use Rattle.ga_codec.specs.Pieces.{BodyFront, BeginsNone, GoesOn, front_bytes}
use Rattle.ga_codec.specs.declared.body_reader.BodyReader.TheInside.{Inside}
use Rattle.ga_codec.specs.Steps.Parts.{Cursor, Takes}
use Rattle.ga_codec.specs.Steps.Pieces.{ReadsHead, head, head_value}
use Rattle.ga_codec.proofs.Faults.{one_fault}
use Rattle.ga_codec.proofs.Pieces.{Known, at_place, head_never, known, piece_read, piece_refused}
use Rattle.ga_codec.proofs.body_reader.BodyReader.read.Goals as goal
use Rattle.ga_codec.proofs.body_reader.BodyReader.read.Goals.{After-read_more_rows}

-- the reader as it was
abbrev old_of : Inside → BodyFront
old_of r = record { is_snapshot = r.is_snapshot; head = option_map head_value r.head; rows = rows_in r.rows.items }

pub returns-in_err-head-clause-refused : goal.returns-in_err-head-clause-refused
returns-in_err-head-clause-refused c =
    let p = err_from_is_err_and c.from_residual.result c.from_residual.ensures.1 in
    let old = old_of c.self.inside in
    let piece = c.args.piece.now in
    let is_last = c.args.is_last in
    let new = c.find_head.new.self in
    let fault = c.in_err-head.field-0.0 in
    let reads = subst (λ (s : Cursor). ReadsHead old.is_snapshot is_last old.head s new (Err fault)) c.of-cursor.ensures c.in_err-head.ensures in
    λ at e.
    subst (λ (f : BodyFront). BeginsNone f.is_snapshot is_last (front_bytes f ++ piece)) c.self.view_is
    (head_never old piece is_last new fault at reads (sym p.2 ∙ one_fault _ _ _ p.1 e))

-- its head as it is then, and how far the piece was read for it
head_known : (c : After-read_more_rows) → Known (old_of c.self.inside) (head_value c.in-Some.head) c.args.piece.now c.find_head.new.self
head_known c =
    let old = old_of c.self.inside in
    let h = head_value c.in-Some.head in
    let cur = c.find_head.new.self in
    let found = rw c.in-Some.is at c.in_ok-head.ensures in
    let family = λ (s : Cursor). MatchOption old.head (Takes (head old.is_snapshot) h s cur) (λ k. (h ≡ k) × (cur ≡ s)) in
    let here = subst family c.of-cursor.ensures found in
    known old.is_snapshot old.head old.rows h c.args.piece.now cur c.self.invariant.head here

pub returns-clause-read : goal.returns-clause-read
returns-clause-read c =
    let old = old_of c.self.inside in
    let piece = c.args.piece.now in
    let h = head_value c.in-Some.head in
    let reads = c.read_more_rows.ensures in
    let n = reads.reached.place in
    let after = rows_in c.read_more_rows.new.rows.items in
    let new : BodyFront = record { is_snapshot = old.is_snapshot; head = Some h; rows = after } in
    let goes = piece_read old h after piece c.find_head.new.self reads.reached (head_known c) reads.rows in
    at_place c.read_more_rows.result n _ _ reads.ok (subst (λ (f : BodyFront). GoesOn n piece f new) c.self.view_is goes)

pub returns-clause-refused : goal.returns-clause-refused
returns-clause-refused c =
    let old = old_of c.self.inside in
    let piece = c.args.piece.now in
    let is_last = c.args.is_last in
    let h = head_value c.in-Some.head in
    let reads = c.read_more_rows.ensures in
    let after = rows_in c.read_more_rows.new.rows.items in
    let refused = piece_refused old h after piece c.find_head.new.self reads.reached (head_known c) reads.rows is_last c.self.invariant.rows in
    λ at e.
    let bad = reads.refused at e in
    subst (λ (f : BodyFront). BeginsNone f.is_snapshot is_last (front_bytes f ++ piece)) c.self.view_is (refused bad.0 bad.1)
