use Rattle.std.proofs.Common.{◌≡◌, ◌∙◌, ◌+◌, ◌-◌, ◌++◌, ℕ, List, length, sym, ap, subst, arith}
use Rattle.std.proofs.lemmas.Result.{err_from_is_err_and}
use Rattle.m2v_plane.specs.declared.dims.Dims.{Dims}
use Rattle.m2v_plane.specs.Samples.{Samples}
use Rattle.m2v_plane.specs.Raw.{frame_bytes, raw, crop}
use Rattle.m2v_law_shown.specs.m2v_enc_stream.Streams.{frame_of}
use Rattle.m2v_port.specs.Port.{GrowsByPrefix}
use Rattle.m2v_port.proofs.Runs.{stays_here, stays_on, grows_on, grows_by_nothing, grows_by_all, prefix_of_more}
use Rattle.m2v_encode.specs.Groups.{all_coded, frames_shown}
use Rattle.m2v_encode.specs.Steps.{PutStops}
use Rattle.m2v_encode.proofs.Puts.{put_then, put_same, grown_by}
use Rattle.m2v_encode.proofs.Anchors.{kept_none, kept_next, kept_all, shown_more, shown_split, shown_size}
use Rattle.m2v_encode.proofs.done.DoneGroup.put_frames.Goals as goal

pub loop-k-init : goal.loop-k-init
loop-k-init g c = record {
  grown = grows_by_nothing (g.K.Sink.held c.args.recon.now);
  anchor = sym (kept_none c.args.self.now c.last_anchor-last.result);
  buffer = c.requires.buffer;
  recon = stays_here c.requires.recon;
}

pub returns-in_default-clause-put : goal.returns-in_default-clause-put
unfolding PutStops
returns-in_default-clause-put g c =
    let b = c.args.self.now in
    let split = shown_split b c.loop-k.k (length b.frames - (c.loop-k.k + 1)) (omega (arith, c.frames-k-end.ensures.value)) in
    record {
      grown = tt;
      err = subst (λ (t : List ℕ). GrowsByPrefix (g.K.Sink.held c.args.recon.now) t (g.K.Sink.held c.loop-k.recon)) (sym split.1)
          (prefix_of_more (grows_by_all c.loop-k.invariant.grown) (crop (frame_of b (all_coded b) c.loop-k.k) ++ split.0));
    }

pub crop_into-requires : goal.crop_into-requires
unfolding frame_of
crop_into-requires g c = record { whole = c.loop-k.invariant.buffer ∙ ap (λ (d : Dims). frame_bytes d) (sym (ap (λ (x : Samples). x.dims) c.in-Ok.ensures.value)) }

pub returns-in_err-put_bytes-clause-put : goal.returns-in_err-put_bytes-clause-put
returns-in_err-put_bytes-clause-put g c =
    let p = err_from_is_err_and c.from_residual.result c.from_residual.ensures.1 in
    let b = c.args.self.now in
    let inv = c.loop-k.invariant in
    let split = shown_split b c.loop-k.k (length b.frames - (c.loop-k.k + 1)) (omega (arith, c.frames-k-end.ensures.value)) in
    let frame : c.crop_into.new.raw ≡ crop (frame_of b (all_coded b) c.loop-k.k) = c.crop_into.ensures.value ∙ ap crop c.in-Ok.ensures.value in
    rw (p.1, p.2) (record {
      grown = tt;
      err = put_then g.K.Sink.held g.K.Sink.faults _ _ _ _ _ _ split.0 _ inv.recon.counts split.1 inv.grown
          (put_same g.K.Sink.held g.K.Sink.faults _ _ _ _ _ (sym frame) c.in_err-put_bytes.ensures.put.err);
    })

pub loop-k-preserved : goal.loop-k-preserved
loop-k-preserved g c =
    let b = c.args.self.now in
    let inv = c.loop-k.invariant in
    let frame : c.crop_into.new.raw ≡ crop (frame_of b (all_coded b) c.loop-k.k) = c.crop_into.ensures.value ∙ ap crop c.in-Ok.ensures.value in
    record {
      grown = grown_by _ _ _ _ (ap (λ (xs : List ℕ). raw (frames_shown b c.loop-k.k) ++ xs) frame ∙ sym (shown_more b c.loop-k.k)) (grows_on inv.grown c.in_ok-put_bytes.ensures.put.grown);
      anchor = kept_next b c.last_anchor-last.result c.loop-k.k c.in-Ok.frame c.loop-k.anchor c.anchor_with-anchor.result inv.anchor c.in-Ok.ensures.value c.anchor_with-anchor.ensures.here c.anchor_with-anchor.ensures.before;
      buffer = ap length frame ∙ shown_size b c.loop-k.k;
      recon = stays_on inv.recon c.put_bytes.ensures.output;
    }

pub returns-clause-anchor : goal.returns-clause-anchor
returns-clause-anchor g c =
    let b = c.args.self.now in
    let end : c.loop-k.k ≡ length b.frames = omega (arith, c.frames-k-end.ensures.value) in
    c.loop-k.invariant.anchor ∙ kept_all b c.pictures-book.ensures.book c.last_anchor-last.result c.loop-k.k c.last_anchor-last.ensures.value end
