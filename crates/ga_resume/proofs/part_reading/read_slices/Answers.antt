use Rattle.std.proofs.Common.{arith, ℕ, ◌≡◌, ◌<◌, ◌≤◌, ◌+◌, ◌-◌, ◌++◌, ◌∙◌, length, take, drop, subst, sym, ap, length-take}
use Rattle.std.specs.Option.{IfSome}
use Rattle.std.proofs.lemmas.Result.{err_from_is_err_and}
use Rattle.ga_counters.specs.Counts.{NoneDue}
use Rattle.ga_ports.specs.Trace.FilesTrace.{no_files_call, files_then}
use Rattle.ga_resume.specs.ReadPart.{after_reads}
use Rattle.ga_resume.proofs.PartReads.{if_some-all, if_some-map, if_some-both, reads-nil, reads-more, bytes-after_reads, measured-after_reads, listed-after_reads, part-more, stops-more-within, none-later, nothing}
use Rattle.ga_resume.proofs.part_reading.read_slices.Goals as goal

pub loop-at-init : goal.loop-at-init
loop-at-init g c =
    let empty = c.new-part.ensures.items in
    let none : c.args.from - c.args.from ≡ 0 = omega arith in
    record {
      within = c.requires.order;
      begun = omega arith;
      so_far = ap length empty ∙ sym none;
      went = no_files_call;
      files = subst (λ n. g.F.Files.view c.args.files.now ≡ after_reads (g.F.Files.view c.args.files.now).counts.calls n (g.F.Files.view c.args.files.now)) (sym none) (reads-nil _);
      bytes = if_some-all (λ bytes. c.new-part.result.items ≡ take (c.args.from - c.args.from) (drop c.args.from bytes)) _ (λ bytes. empty ∙ sym (nothing c.args.from bytes));
    }

pub append_slice-requires-clause-below : goal.append_slice-requires-clause-below
append_slice-requires-clause-below g c =
    let same = measured-after_reads (c.loop-at.at - c.args.from) (g.F.Files.view c.args.files.now) (g.F.Files.view c.loop-at.files) c.loop-at.invariant.files in
    let below = if_some-map (λ size. c.args.end ≤ size) (λ size. c.loop-at.at < size) _ (λ size e. omega (arith, e)) c.requires.within in
    subst (λ o. IfSome o (λ size. c.loop-at.at < size)) (sym same) below

pub append_slice-requires-clause-told : goal.append_slice-requires-clause-told
append_slice-requires-clause-told g c =
    let same = bytes-after_reads (c.loop-at.at - c.args.from) (g.F.Files.view c.args.files.now) (g.F.Files.view c.loop-at.files) c.loop-at.invariant.files in
    let told = if_some-map (λ bytes. c.args.end ≤ length bytes) (λ bytes. c.loop-at.at < length bytes) _ (λ bytes e. omega (arith, e)) c.requires.told in
    subst (λ o. IfSome o (λ bytes. c.loop-at.at < length bytes)) (sym same) told

pub loop-at-preserved : goal.loop-at-preserved
loop-at-preserved g c =
    let ok = c.in_ok-count.ensures.ok in
    let begun = c.loop-at.invariant.begun in
    let far : (c.loop-at.at - c.args.from) + c.in_ok-count.count ≡ c.loop-at.at + c.in_ok-count.count - c.args.from = omega (arith, begun) in
    let same = bytes-after_reads (c.loop-at.at - c.args.from) (g.F.Files.view c.args.files.now) (g.F.Files.view c.loop-at.files) c.loop-at.invariant.files in
    let bytes = subst (λ o. IfSome o (λ bytes. c.append_slice.new.part.items ≡ c.loop-at.part.items ++ take c.in_ok-count.count (drop c.loop-at.at bytes))) same ok.bytes in
    record {
      within = omega (arith, ok.within, length-take {A = ℕ});
      begun = omega (arith, begun);
      so_far = omega (arith, ok.long, begun, c.loop-at.invariant.so_far);
      went = files_then c.loop-at.invariant.went c.append_slice.ensures.calls;
      files = subst (λ n. g.F.Files.view c.append_slice.new.files ≡ after_reads (g.F.Files.view c.append_slice.new.files).counts.calls n (g.F.Files.view c.args.files.now)) far
          (reads-more (c.loop-at.at - c.args.from) c.in_ok-count.count (g.F.Files.view c.args.files.now) (g.F.Files.view c.loop-at.files) (g.F.Files.view c.append_slice.new.files) c.loop-at.invariant.files ok.files);
      bytes =
          if_some-both (λ bytes. c.loop-at.part.items ≡ take (c.loop-at.at - c.args.from) (drop c.args.from bytes)) _
          (λ bytes. c.append_slice.new.part.items ≡ take (c.loop-at.at + c.in_ok-count.count - c.args.from) (drop c.args.from bytes)) _
          (λ bytes e h. part-more c.args.from c.loop-at.at c.in_ok-count.count bytes c.loop-at.part.items _ begun e h) c.loop-at.invariant.bytes bytes;
    }

pub returns-in_err-count-clause-failed : goal.returns-in_err-count-clause-failed
returns-in_err-count-clause-failed g c =
    let stops = c.in_err-count.ensures.failed in
    let p = err_from_is_err_and c.from_residual.result c.from_residual.ensures.1 in
    rw (p.1, p.2) (stops-more-within (c.loop-at.at - c.args.from) _ (c.args.end - c.args.from) (g.F.Files.view c.args.files.now) (g.F.Files.view c.loop-at.files) _ _ c.loop-at.invariant.files
    (omega (arith, length-take {A = ℕ}, c.loop-at.invariant.begun)) stops)

pub returns-in_err-count-clause-calls : goal.returns-in_err-count-clause-calls
returns-in_err-count-clause-calls g c = files_then c.loop-at.invariant.went c.append_slice.ensures.calls

pub returns-in_err-count-clause-sure : goal.returns-in_err-count-clause-sure
returns-in_err-count-clause-sure g c =
    let p = err_from_is_err_and c.from_residual.result c.from_residual.ensures.1 in
    let same = listed-after_reads (c.loop-at.at - c.args.from) (g.F.Files.view c.args.files.now) (g.F.Files.view c.loop-at.files) c.loop-at.invariant.files in
    λ none. rw (p.1, p.2) (c.in_err-count.ensures.sure (subst (λ told. NoneDue told (g.F.Files.view c.loop-at.files).counts.calls) (sym same)
    (none-later _ _ (g.F.Files.view c.args.files.now).listed (c.files_stay.ensures _ _ c.loop-at.invariant.went).calls none)))

pub returns-clause-ok : goal.returns-clause-ok
returns-clause-ok g c =
    let whole : c.loop-at.at ≡ c.args.end = omega arith in
    record {
      long = c.loop-at.invariant.so_far ∙ ap (λ (k : ℕ). k - c.args.from) whole;
      bytes = subst (λ (k : ℕ). IfSome (g.F.Files.view c.args.files.now).bytes (λ bytes. c.loop-at.part.items ≡ take (k - c.args.from) (drop c.args.from bytes))) whole c.loop-at.invariant.bytes;
      files = subst (λ (k : ℕ). g.F.Files.view c.loop-at.files ≡ after_reads (g.F.Files.view c.loop-at.files).counts.calls (k - c.args.from) (g.F.Files.view c.args.files.now)) whole c.loop-at.invariant.files;
    }
