use Rattle.std.proofs.Common.{◌≡◌, ◌++◌}
use Rattle.std.specs.Prelude.{codes, decimal, string_bytes}
use Rattle.std.proofs.lemmas.Result.{IfOk-weaker}
use Rattle.m2v_y4m.specs.Writing.{header_text}
use Rattle.m2v_y4m.proofs.packing.header_line.Goals as goal

pub returns : goal.returns
unfolding header_text
returns c =
    let h = c.args.header.now in
    let r = c.rate_of_code-frames.result in
    record {
      value = IfOk-weaker c.format.result
          (λ s. string_bytes s ≡ codes "YUV4MPEG2 W" ++ (decimal h.width ++ (codes " H" ++ (decimal h.height
          ++ (codes " F" ++ (decimal r.0 ++ (codes ":" ++ (decimal r.1 ++ (c.scan_text-scan.result.now ++ codes " A0:0 C420mpeg2\n")))))))))
          (λ s. string_bytes s ≡ header_text h)
          (λ s wrote. rw (c.rate_of_code-frames.ensures.frames, c.rate_of_code-frames.ensures.seconds, c.scan_text-scan.ensures.value) at wrote) c.format.ensures.ok;
    }
