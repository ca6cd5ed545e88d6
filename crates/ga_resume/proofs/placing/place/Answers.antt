use Rattle.std.proofs.Common.{◌≡◌, ◌∙◌, ◌-◌, ap, sym, subst, arith, min, length, take, drop, List, Option, ℕ}
use Rattle.std.specs.Option.{IfSome}
use Rattle.ga_resume.specs.ReadPart.{after_reads, part_of}
use Rattle.ga_base.specs.declared.entry.Entry.{Entry}
use Rattle.ga_resume.specs.Segment.{IsSegment, measured_as}
use Rattle.ga_resume.proofs.PartReads.{if_some-map, if_some-both}
use Rattle.ga_resume.proofs.Placements.{sized-and-read, sized-bytes, front-is}
use Rattle.ga_ports.specs.Trace.FilesCall.{size_call}
use Rattle.ga_ports.specs.Trace.FilesTrace.{one_files_call, files_then}
use Rattle.ga_resume.proofs.placing.place.Goals as goal

pub returns-in_err-end-clause-calls : goal.returns-in_err-end-clause-calls
returns-in_err-end-clause-calls g c = one_files_call (size_call c.size.ensures.sizes c.size.ensures.exact)

pub returns-in_err-front-clause-calls : goal.returns-in_err-front-clause-calls
returns-in_err-front-clause-calls g c = files_then (one_files_call (size_call c.size.ensures.sizes c.size.ensures.exact)) c.read_part.ensures.calls

pub returns-in_err-segment-clause-calls : goal.returns-in_err-segment-clause-calls
returns-in_err-segment-clause-calls g c = files_then (one_files_call (size_call c.size.ensures.sizes c.size.ensures.exact)) c.read_part.ensures.calls

pub returns-clause-ok : goal.returns-clause-ok
returns-clause-ok g c =
    let view = g.F.Files.view in
    let sized = c.in_ok-end.ensures.sizes.ok in
    let read = c.in_ok-front.ensures.ok in
    let segment = c.in_ok-segment.field-0 in
    let same = sized-bytes c.in_ok-end.end (view c.args.files.now) (view c.size.new.self) sized.0 in
    let bytes = subst (λ (o : Option (List ℕ)). IfSome o (λ b. c.in_ok-front.front.items ≡ part_of 0 c.min.result b)) same read.bytes in
    let whole : c.min.result - 0 ≡ min c.in_ok-end.end 4096 = omega (arith, c.min.ensures) in
    record {
      is = subst (λ (entries : List Entry). IsSegment entries segment) c.items.ensures c.in_ok-segment.ensures.is;
      end = if_some-map (λ b. c.in_ok-end.end ≡ length b) (λ b. segment.end ≡ length b) _ (λ b e. c.in_ok-segment.ensures.end ∙ e) sized.1;
      front = if_some-both (λ b. c.in_ok-front.front.items ≡ part_of 0 c.min.result b) (λ b. c.in_ok-end.end ≡ length b) (λ b. segment.front ≡ take 4096 b) _
          (λ b h e. c.in_ok-segment.ensures.front ∙ front-is c.in_ok-end.end b _ (h ∙ ap (λ (n : ℕ). take (n - 0) (drop 0 b)) c.min.ensures) e) bytes sized.1;
      files = sized-and-read c.in_ok-end.end (c.min.result - 0) (view c.args.files.now) (view c.size.new.self) (view c.read_part.new.files) sized.0 read.files
          ∙ ap (λ (n : ℕ). after_reads (view c.read_part.new.files).counts.calls n (measured_as c.in_ok-end.end (view c.args.files.now))) whole
          ∙ ap (λ (e : ℕ). after_reads (view c.read_part.new.files).counts.calls (min e 4096) (measured_as e (view c.args.files.now))) (sym c.in_ok-segment.ensures.end);
    }

pub returns-clause-calls : goal.returns-clause-calls
returns-clause-calls g c = files_then (one_files_call (size_call c.size.ensures.sizes c.size.ensures.exact)) c.read_part.ensures.calls
