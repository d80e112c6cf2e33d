-- The end of the text: what stands then.
use Rattle.std.proofs.Common.{◌≡◌, ℕ, ◌+◌, ◌≤◌, List, [], ◌++◌, length, map, Option, option_to_list, Ok, refl, sym, ap, subst, ◌∙◌, arith}
use Rattle.std.proofs.lemmas.List.{append-nil, length-append, length-map}
use Rattle.m2v_port.specs.Ends.{Change, change}
use Rattle.m2v_port.specs.Port.{Grows, GrowsByPrefix}
use Rattle.m2v_port.proofs.Runs.{rose_since, moves_nothing, grows_on, prefix_on}
use Rattle.m2v_plane.specs.Samples.{Samples}
use Rattle.m2v_plane.specs.Raw.{raw, crop}
use Rattle.m2v_model.specs.Pictures.{Pictures, Events, pictures_in}
use Rattle.m2v_model.specs.Pieces.{pieces, most_input}
use Rattle.m2v_model.specs.Decoding.{Decodes, shown, low_delay_of}
use Rattle.m2v_model.specs.ByPieces.{Between, at_start as text_start, end_read, behind as behind_events, continued, text_read, IsRead}
use Rattle.m2v_model.proofs.PieceLaws.{rest_read, rest_none, rest_read-append, text_rest, by_pieces}
use Rattle.m2v_dec_piece.specs.declared.answer.DecodeError.{DecodeError}
use Rattle.m2v_dec_piece.specs.declared.answer.DecodeError.TheVariants as errors
use Rattle.m2v_dec_piece.specs.Cutting.{Cutting}
use Rattle.m2v_decode.specs.Decoding.{Decoding, at_start, between, due_of, Finished}
use Rattle.m2v_decode.specs.declared.answer.Decoded.{Decoded}
use Rattle.m2v_decode.specs.Answers.{start_of, AllFit, PiecesRead, place_behind, shown_by, IsDecoded, IsCut, OfText, OfTaken, Fails}
use Rattle.m2v_decode.specs.Progress.{raw_of, before_all, Reached, IsDone, Ends, EndFails}
use Rattle.m2v_decode.proofs.Ordering.{shown_is, agrees}
use Rattle.m2v_decode.proofs.Going.{ends_behind, progress_none, moved_cut, shown_raw, faulty_at}

due_then : (d n : Decoding) (end : ℕ) → d.ready ≡ [] → Finished d end n → due_of n ≡ option_to_list d.anchor
due_then d n end none f = rw (f.ready, f.ended, f.anchor, none) refl

whole_read : (text : List ℕ) (es : Events) (st last : Between) → (b : PiecesRead text es st []) → end_read st (place_behind b) ≡ Ok ([], last) → text_read text ≡ Ok (es, last)
unfolding continued
whole_read text es st last b read =
    text_rest text ∙ ap (rest_read text_start (start_of text)) (b.are) ∙ rest_read-append b.first [] text_start (start_of text)
    ∙ rw b.read (ap (behind_events es) (rest_none st (place_behind b) ∙ read) ∙ ap (λ (t : Events). Ok (t, last)) (append-nil es))

decodes_to : (text : List ℕ) (es : Events) (b : Between) → IsRead text es b → Decodes text (shown_by b es)
decodes_to text es b r = record {
  tree = r.tree;
  stream = r.stream;
  shown = ap (λ (t : Events × Between). shown_by t.1 t.0) r.told;
}

all_fit : (text : List ℕ) (es : Events) (st : Between) → (b : PiecesRead text es st []) → AllFit (start_of text) (pieces text)
all_fit text es st b = subst (AllFit (start_of text)) (sym (b.are ∙ append-nil b.first)) b.fit

module _ {S K : Type 0} (left : S → Option (List ℕ)) (input_faults : S → ℕ) (held : K → Option (List ℕ)) (output_faults : K → ℕ) where
  abbrev input : S → S → Change
  input = change left input_faults

  abbrev output : K → K → Change
  output = change held output_faults

  -- nothing was read
  pub nothing_read : (i0 : S) (o0 : K) → Fails (input i0 i0) (output o0 o0) errors.Memory
  nothing_read i0 o0 = moved_cut left input_faults held output_faults i0 i0 i0 o0 o0 before_all at_start [] (progress_none left input_faults held output_faults i0 o0) (moves_nothing (left i0))

  decoded : (taken : ℕ) (text : List ℕ) (at : ℕ) (frames : List Samples) (d n : Decoding) (o0 o1 o2 : K) (x : Decoded) → at ≤ most_input → Reached taken text at [] frames d → d.ready ≡ [] → d.shown ≡ length frames → Finished d at n
      → Grows (held o0) (raw_of frames) (held o1) → Grows (held o1) (raw_of (due_of n)) (held o2) → x ≡ record { frames = d.shown + length (due_of n); pictures = d.pictures; dropped = d.dropped } → IsDecoded text (output o0 o2) x
  decoded taken text at frames d n o0 o1 o2 x most r none count f grown last is =
      let low = low_delay_of d.state.first in
      let ps : Pictures = pictures_in r.events in
      let due : due_of n ≡ option_to_list d.anchor = due_then d n at none f in
      let same : shown_by (between n) r.events ≡ shown_by (between d) r.events = ap (λ s. shown (low_delay_of s) ps) f.first in
      let read = (by_pieces text).stands r.events (between n) (whole_read text r.events (between d) (between n) r.begun (subst (λ (y : ℕ). end_read (between d) y ≡ Ok ([], (between n))) r.place f.read)) in
      let all : map crop (frames ++ option_to_list d.anchor) ≡ shown_by (between d) r.events = shown_is low ps d.anchor frames (r.shows low (agrees d.state.first)) in
      let number : d.shown + length (due_of n) ≡ length (shown_by (between n) r.events) =
      omega (arith, count, ap length due, ap length all, ap length same, length-map (frames ++ option_to_list d.anchor) crop, length-append frames (option_to_list d.anchor)) in
      record {
        frames = shown_by (between n) r.events;
        decodes = decodes_to text r.events (between n) read;
        events = r.events;
        between = (between n);
        read = read;
        start =
            let low = ends_behind (start_of text) (r.begun).first in
            omega (arith, low, r.place, most);
        fit = all_fit text r.events (between d) r.begun;
        grown = subst (λ (b : List ℕ). Grows (held o0) b (held o2)) (sym (ap raw same ∙ shown_raw (between d) r.events d.anchor frames r.shows ∙ ap (λ (t : List Samples). raw_of frames ++ raw_of t) (sym due))) (grows_on grown last);
        numbers = is ∙ (λ i. record { frames = number i; pictures = r.counted i; dropped = r.dropped i });
      }

  pub done_ok : (i0 i1 : S) (o0 o1 o2 : K) (c : Cutting) (d : Decoding) (x : Decoded) → IsDone (input i0 i1) (output o0 o1) c d → Ends d c.place x (output o1 o2)
      → OfText (input i0 i1) (λ text. IsDecoded text (output o0 o2) x)
  done_ok i0 i1 o0 o1 o2 c d x so e = record {
    bytes = so.bytes;
    moved = so.moved;
    told = λ rest q. decoded _ _ c.place so.frames d e.new o0 o1 o2 x so.most (so.told rest q) so.none so.shown e.finished so.grown e.grown e.numbers;
  }

  end_cut : (bytes text : List ℕ) (at : ℕ) (frames : List Samples) (d n : Decoding) (o0 o1 o2 : K) → Reached (length bytes) text at [] frames d → d.ready ≡ [] → Finished d at n → Grows (held o0) (raw_of frames) (held o1) → GrowsByPrefix (held o1) (raw_of (due_of n)) (held o2)
      → IsCut bytes text (output o0 o2)
  end_cut bytes text at frames d n o0 o1 o2 r none f grown cut = record {
    events = r.events;
    between = (between d);
    others = [];
    begun = r.begun;
    within = λ some. let within = r.within some in omega (arith, within, r.place);
    grown = subst (λ (b : List ℕ). GrowsByPrefix (held o0) b (held o2)) (sym (shown_raw (between d) r.events d.anchor frames r.shows ∙ ap (λ (t : List Samples). raw_of frames ++ raw_of t) (sym (due_then d n at none f)))) (prefix_on grown cut);
  }

  end_text : (i0 i1 : S) (o0 o1 o2 : K) (c : Cutting) (d n : Decoding) → IsDone (input i0 i1) (output o0 o1) c d → Finished d c.place n → GrowsByPrefix (held o1) (raw_of (due_of n)) (held o2)
      → OfTaken (input i0 i1) (λ bytes text. IsCut bytes text (output o0 o2))
  end_text i0 i1 o0 o1 o2 c d n so f cut = record {
    bytes = so.bytes;
    moved = so.moved;
    told = λ rest q. end_cut _ _ c.place so.frames d n o0 o1 o2 (so.told rest q) so.none f so.grown cut;
  }

  pub done_err : (i0 i1 : S) (o0 o1 o2 : K) (c : Cutting) (d : Decoding) (e : DecodeError) → output_faults o0 ≤ output_faults o1 → IsDone (input i0 i1) (output o0 o1) c d
      → EndFails d c.place (output o1 o2) e → Fails (input i0 i1) (output o0 o2) e
  done_err i0 i1 o0 o1 o2 c d errors.Read rises so why = absurd why
  done_err i0 i1 o0 o1 o2 c d errors.Write rises so why = (rose_since rises why.0, end_text i0 i1 o0 o1 o2 c d why.1.0 so why.1.1 why.1.2)
  done_err i0 i1 o0 o1 o2 c d (errors.Stream f) rises so why = record {
    bytes = so.bytes;
    moved = so.moved;
    told = λ rest q. faulty_at left input_faults held output_faults _ _ c.place [] so.frames d o0 o2 f (so.told rest q) (subst (λ (h : Option (List ℕ)). Grows (held o0) (raw_of so.frames) h) (sym why.1) so.grown) (so.most, why.0) so.most;
  }
  done_err i0 i1 o0 o1 o2 c d errors.TooLong rises so why = absurd why
  done_err i0 i1 o0 o1 o2 c d errors.PictureTooLarge rises so why = absurd why
  done_err i0 i1 o0 o1 o2 c d errors.Memory rises so why = end_text i0 i1 o0 o1 o2 c d why.0 so why.1 why.2
