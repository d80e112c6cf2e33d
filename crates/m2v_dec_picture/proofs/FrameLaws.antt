-- The frames at hand: what is predicted from them, and their sizes.
use Rattle.std.proofs.Common.{◌≡◌, ℕ, zero, suc, ◌+◌, ◌*◌, ◌<◌, Bool, true, false, ◌&&◌, not, nat_eq, List, [], ◌∷◌, refl, sym, ap, ◌∙◌, subst}
use Rattle.std.specs.Prelude.{Option, Some, None, IsSome, is_some, IfSome, OnOk, Result, Ok, Err, if◌then◌else◌}
use Rattle.m2v_plane.specs.declared.dims.Dims.{Dims}
use Rattle.m2v_plane.specs.declared.planes.Plane.{Plane}
use Rattle.m2v_plane.specs.declared.planes.Lines.{Lines}
use Rattle.m2v_plane.specs.declared.planes.Lines.TheVariants.{Whole, Top, Bottom}
use Rattle.m2v_plane.specs.Sizes.{lines_of}
use Rattle.m2v_plane.specs.Samples.{Samples, HasRows, blank, plane_with_square}
use Rattle.m2v_plane.specs.Fields.{FieldFrames, HoldsLine, lines_there, sample_from, or_none}
use Rattle.m2v_plane.proofs.RawVideo.{length-plane_by}
use Rattle.m2v_pred.specs.declared.mode.MbPlace.{MbPlace}
use Rattle.m2v_macro.specs.declared.values.SliceState.{SliceState}
use Rattle.m2v_macroblock.specs.Macroblocks.{Macroblock, after_macroblock}
use Rattle.m2v_macroblock.specs.Modes.{place_of, address_of, skipped_before, first_skipped}
use Rattle.m2v_macroblock.specs.Predictions.{prediction_of}
use Rattle.m2v_macroblock.specs.Predictions.{sample_at as samples_of}
use Rattle.m2v_model.specs.declared.setup.SliceSetup.{SliceSetup}
use Rattle.m2v_model.specs.States.{is_b, dims_of}
use Rattle.m2v_model.specs.Samples.{References, put_in_frame, skipped_painted, own_painted, painted, all_painted}
use Rattle.m2v_model.specs.Pictures.{no_references, references_by, picture_begun}
use Rattle.m2v_model.specs.declared.state.Sequence.{Sequence}
use Rattle.m2v_model.specs.declared.state.Open.{Open}
use Rattle.m2v_model.specs.declared.stop.Stop.{Stop}
use Rattle.m2v_dec_picture.specs.declared.slices.SliceEnd.{SliceEnd}
use Rattle.m2v_dec_picture.specs.declared.gallery.Reading.{Reading}
use Rattle.m2v_dec_picture.specs.Reads.{TellsSlice}
use Rattle.m2v_dec_picture.specs.Conditions.{HoldsDecoded}
use Rattle.m2v_dec_picture.specs.Frames.{Frames, references_at, references_in, store_of, forward_top, forward_bottom, backward_frame, HaveSize, PaintsSlice}

-- ---- what views show and hold

abbrev pub shown : Option Samples → Option Samples → Plane → Lines → ℕ → ℕ → ℕ
shown top bottom = sample_from (record { top = or_none top; bottom = or_none bottom })

abbrev pub both_shown : Option Samples → Option Samples → Option Samples → References
both_shown top bottom back = record { forward = shown top bottom; backward = shown back back }

abbrev told : Bool → Bool → Bool → Option Samples → Option Samples → Option Samples → References
told b second top older newer first =
    if b then both_shown older older newer
    else if second then (if top then both_shown newer first None else both_shown first newer None)
    else both_shown newer newer None

abbrev placed : Bool → Bool → Bool → Option Samples → Option Samples → Option Samples → References
placed b second top older newer first =
    both_shown (if b then older else if second && not top then first else newer) (if b then older else if second && top then first else newer) (if b then newer else None)

told_placed : (b second top : Bool) (older newer first : Option Samples) → told b second top older newer first ≡ placed b second top older newer first
told_placed true second top older newer first = refl
told_placed false true true older newer first = refl
told_placed false true false older newer first = refl
told_placed false false top older newer first = refl

by_told : (r : Reading) (older newer first : Option Samples) (b second top : Bool) → is_b r.kind ≡ b → r.second_field ≡ second → nat_eq r.structure 1 ≡ top
    → references_at (Some r) older newer first ≡ told b second top older newer first
unfolding references_by
by_told r older newer first true second top eb es et = rw eb refl
by_told r older newer first false true true eb es et = rw (eb, es, et) refl
by_told r older newer first false true false eb es et = rw (eb, es, et) refl
by_told r older newer first false false top eb es et = rw (eb, es) refl

-- the references are what views of these frames show
pub references_are : (r : Option Reading) (older newer first : Option Samples) → references_at r older newer first
    ≡ both_shown (forward_top r older newer first) (forward_bottom r older newer first) (backward_frame r newer)
references_are None older newer first = refl
references_are (Some r) older newer first =
    by_told r older newer first (is_b r.kind) r.second_field (nat_eq r.structure 1) refl refl refl
    ∙ told_placed (is_b r.kind) r.second_field (nat_eq r.structure 1) older newer first

there_more : (a b c d : Bool) (which : Lines) → (a ≡ true → c ≡ true) → (b ≡ true → d ≡ true) → lines_there a b which ≡ true → lines_there c d which ≡ true
unfolding lines_there
there_more true true c d Whole ac bd h = rw (ac refl, bd refl) refl
there_more true false c d Whole ac bd h = absurd cc
there_more false b c d Whole ac bd h = absurd cc
there_more a b c d Top ac bd h = ac h
there_more a b c d Bottom ac bd h = bd h

some_is : {A : Type 0} (o : Option A) → IsSome o → is_some o ≡ true
some_is (Some x) h = refl
some_is None h = absurd cc

-- a view whose fields are there where they were decoded holds what is read
pub view_holds : (s : SliceSetup) (v : FieldFrames) (top bottom : Bool) → v.dims ≡ s.dims → (top ≡ true → IsSome v.top) → (bottom ≡ true → IsSome v.bottom) → HoldsDecoded s v.dims (HoldsLine v) top bottom
view_holds s v top bottom size has_top has_bottom = record {
  size_is = size;
  lines = λ plane which line there lt. (
    there_more top bottom (is_some v.top) (is_some v.bottom) which (λ e. some_is v.top (has_top e)) (λ e. some_is v.bottom (has_bottom e)) there,
    subst (λ (d : Dims). line < lines_of d plane which) (sym size) lt,
  );
}

-- ---- sizes

skipped_size : (s : SliceSetup) (refs : References) (st : SliceState) (at n : ℕ) (now : Samples) → (skipped_painted put_in_frame s refs st at n now).dims ≡ now.dims
unfolding skipped_painted
skipped_size s refs st at zero now = refl
skipped_size s refs st at (suc n) now = skipped_size s refs st (at + 1) n _

-- painting keeps a frame's size
pub painted_size : (s : SliceSetup) (refs : References) (st : SliceState) (xs : List Macroblock) (now : Samples) → (all_painted put_in_frame s refs st xs now).dims ≡ now.dims
unfolding all_painted painted own_painted
painted_size s refs st [] now = refl
painted_size s refs st (x ∷ xs) now = painted_size s refs (after_macroblock s.context st x) xs (painted put_in_frame s refs st x now) ∙ skipped_size s refs st _ _ now

abbrev pub IsWhole : Samples → Type 0
IsWhole s = HasRows s s.dims.mb_rows

put_whole : (at : MbPlace) (new : Plane → ℕ → ℕ → ℕ) (now : Samples) → IsWhole (put_in_frame at new now)
unfolding plane_with_square
put_whole at new now = record {
  luma = length-plane_by (16 * now.dims.mb_rows) (16 * now.dims.mb_width) _;
  cb = length-plane_by (8 * now.dims.mb_rows) (8 * now.dims.mb_width) _;
  cr = length-plane_by (8 * now.dims.mb_rows) (8 * now.dims.mb_width) _;
}

own_whole : (s : SliceSetup) (refs : References) (st : SliceState) (x : Macroblock) (now : Samples) → IsWhole (own_painted put_in_frame s refs st x now)
unfolding own_painted
own_whole s refs st x now =
    let at = place_of s.context (address_of st x.syntax) in
    put_whole at (samples_of s.context st (prediction_of refs.forward refs.backward s.context at x.syntax) x) now

-- painting keeps all samples
painted_whole : (s : SliceSetup) (refs : References) (st : SliceState) (xs : List Macroblock) (now : Samples) → IsWhole now → IsWhole (all_painted put_in_frame s refs st xs now)
unfolding all_painted painted
painted_whole s refs st [] now h = h
painted_whole s refs st (x ∷ xs) now h =
    painted_whole s refs (after_macroblock s.context st x) xs (painted put_in_frame s refs st x now)
    (own_whole s refs st x (skipped_painted put_in_frame s refs st (first_skipped st) (skipped_before st x.syntax) now))

whole_there : (o : Option Samples) (frame : Samples) → o ≡ Some frame → IfSome o IsWhole → IsWhole frame
whole_there o frame e h = rw e at h

-- ---- a slice that was read

pub slice_told : (s : SliceSetup) (covered row : ℕ) (old new : List Bool) (f : Frames) (frame out : Samples) (refs : References) (result : Result SliceEnd Stop) → references_in f ≡ refs → f.current ≡ Some frame
    → TellsSlice put_in_frame s refs covered row old frame result new out → PaintsSlice s covered row old f result new (record f { current = Some out })
slice_told s covered row old new f frame out refs (Ok end) are is told = (
  told.0,
  told.1,
  told.2,
  told.3,
  rw (are, is) (ap (λ (z : Samples). record f { current = Some z }) told.4),
)
slice_told s covered row old new f frame out refs (Err e) are is told = told

same_size : (o : Option Samples) (frame : Samples) (d : Dims) → o ≡ Some frame → IfSome o (λ s. s.dims ≡ d) → frame.dims ≡ d
same_size o frame d e h = rw e at h

pub slice_size : (s : SliceSetup) (covered row : ℕ) (old new : List Bool) (f : Frames) (frame out : Samples) (refs : References) (result : Result SliceEnd Stop) (d : Dims) → HaveSize d f → f.current ≡ Some frame
    → TellsSlice put_in_frame s refs covered row old frame result new out → OnOk result (HaveSize d (record f { current = Some out }))
slice_size s covered row old new f frame out refs (Ok end) d h is told = record {
  older = h.older;
  newer = h.newer;
  current = ap (λ (z : Samples). z.dims) told.4 ∙ painted_size s refs _ _ frame ∙ same_size f.current frame d is h.current;
  whole = subst IsWhole (sym told.4) (painted_whole s refs _ _ frame (whole_there f.current frame is h.whole));
  first_field = h.first_field;
}
slice_size s covered row old new f frame out refs (Err e) d h is told = tt

-- ---- a picture that begins

-- only a second field looks at the frame of its first field
references_alike : (b : Bool) (kind structure : ℕ) (older newer first current : Option Samples) (refs : References) → is_b kind ≡ b
    → references_by kind false structure (record { older = older; newer = newer; current = first; references = no_references })
    ≡ references_by kind false structure (record { older = older; newer = newer; current = current; references = refs })
unfolding references_by
references_alike true kind structure older newer first current refs e = rw e refl
references_alike false kind structure older newer first current refs e = rw e refl

second_alike : (b top : Bool) (kind structure : ℕ) (older newer current : Option Samples) (refs : References) → is_b kind ≡ b → nat_eq structure 1 ≡ top
    → references_by kind true structure (record { older = older; newer = newer; current = current; references = no_references })
    ≡ references_by kind true structure (record { older = older; newer = newer; current = current; references = refs })
unfolding references_by
second_alike true top kind structure older newer current refs e t = rw e refl
second_alike false true kind structure older newer current refs e t = rw (e, t) refl
second_alike false false kind structure older newer current refs e t = rw (e, t) refl

pub frame_begun : (s : Sequence) (p : Open) (f g : Frames) → p.slices_unread ≡ false → p.second_field ≡ false
    → g ≡ record f { current = Some (blank (dims_of s) (dims_of s).mb_rows); reading = Some (record { kind = p.info.kind; second_field = p.second_field; structure = p.extension.structure }) }
    → store_of g ≡ picture_begun (Some s) p (store_of f)
frame_begun s p f g read first is =
    ap store_of is ∙ rw (read, first) (λ i. record {
      older = f.older;
      newer = f.newer;
      current = Some (blank (dims_of s) (dims_of s).mb_rows);
      references = references_alike (is_b p.info.kind) p.info.kind p.extension.structure f.older f.newer f.first_field f.current (references_in f) refl i;
    })

pub second_begun : (s : Sequence) (p : Open) (f g : Frames) → p.slices_unread ≡ false → p.second_field ≡ true
    → g ≡ record f { first_field = f.current; reading = Some (record { kind = p.info.kind; second_field = p.second_field; structure = p.extension.structure }) }
    → store_of g ≡ picture_begun (Some s) p (store_of f)
second_begun s p f g read second is =
    ap store_of is ∙ rw (read, second) (λ i. record {
      older = f.older;
      newer = f.newer;
      current = f.current;
      references = second_alike (is_b p.info.kind) (nat_eq p.extension.structure 1) p.info.kind p.extension.structure f.older f.newer f.current (references_in f) refl refl i;
    })

-- a step that may fail
pub on_ok_then : {E : Type 0} {P Q : Type 0} (r : Result (Unit {0}) E) → OnOk r P → (P → Q) → OnOk r Q
on_ok_then (Ok x) p f = f p
on_ok_then (Err e) p f = tt
