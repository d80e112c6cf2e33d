-- A picture with its headers and slices: its parts are read from its units, and its text has these units.
use Rattle.std.proofs.Common.{◌≡◌, ℕ, zero, suc, ◌+◌, ◌-◌, ◌*◌, ◌/◌, ◌<◌, ◌≤◌, Bool, true, false, cond, not, List, [], ◌∷◌, ◌++◌, length, map, replicate, Option, Some, None, inl, inr, refl, sym, ap, subst, ◌∙◌, arith, append_assoc}
use Rattle.std.specs.Prelude.{nat_eq}
use Rattle.std.specs.List.{range_with_len, flat_map}
use Rattle.std.proofs.lemmas.Bool.{and_parts}
use Rattle.std.proofs.lemmas.List.{append-nil}
use Rattle.std.proofs.lemmas.List.Folds.{flat_map-map}
use Rattle.m2v_bits.specs.Bits.{unit}
use Rattle.m2v_bits.proofs.Texts.{texts_more}
use Rattle.m2v_head.specs.Texts.{sequence_text, sequence_extension_text, group_text, picture_text, picture_extension_text}
use Rattle.m2v_set.specs.declared.settings.Settings.{Settings}
use Rattle.m2v_set.specs.declared.settings.Scan.{Scan}
use Rattle.m2v_set.specs.declared.settings.Scan.TheVariants.{Progressive, Frames, Fields}
use Rattle.m2v_set.specs.Bounds.{InSize, InChoice}
use Rattle.m2v_set.specs.Numbers.{rows_by}
use Rattle.m2v_set.specs.Rules.{is_progressive, line_step}
use Rattle.m2v_set.proofs.Facts.{bounds}
use Rattle.m2v_order.specs.declared.jobs.PictureJob.{PictureJob}
use Rattle.m2v_rate.specs.declared.values.Plan.{Plan}
use Rattle.m2v_rate.specs.Plans.{Entries}
use Rattle.m2v_slice.specs.Slices.{CodedSlice, slice_of}
use Rattle.m2v_slice.specs.Headers.{sequence_of, sequence_extension_of, group_from, picture_of, extension_of, begins_group, group_units, picture_units, header_units}
use Rattle.m2v_slice.specs.Books.{Book, CodedPicture, rows, job_at, picture_at, coded, task_of}
use Rattle.m2v_slice.specs.Conditions.{IsBook}
use Rattle.m2v_slice.proofs.Coded.{picture_is, slices_are, next_plan}
use Rattle.m2v_slice.proofs.Groups.{passes_of, picture_is_one, rows_few}
use Rattle.m2v_enc_stream.specs.Streams.{zeros_of, delay_at, picture_text as text_of}
use Rattle.m2v_enc_stream.proofs.Pictures.{zeros_whole}
use Rattle.m2v_model.specs.declared.state.FirstField.{FirstField}
use Rattle.m2v_model.specs.declared.state.Open.{Open}
use Rattle.m2v_model.specs.declared.state.State.{State}
use Rattle.m2v_model.specs.Units.{Units}
use Rattle.m2v_model.specs.States.{is_complete, none_waits, is_same_sequence}
use Rattle.m2v_model.specs.Streams.{Part, sequence, group, picture, after}
use Rattle.m2v_model.specs.Texts.{Packs}
use Rattle.m2v_model.specs.Chains.{Reads, Chain, nothing, link}
use Rattle.m2v_model.proofs.Chains.{chain_then}
use Rattle.m2v_model.proofs.Units.{packs_none, packs_unit, packs_append}
use Rattle.m2v_enc_stream.specs.Slices.{slice_body}
use Rattle.m2v_enc_stream.specs.Trees.{sequence_by, header_parts, task_at, picture_parts}
use Rattle.m2v_enc_stream.specs.States.{waiting_behind, anchors_behind}
use Rattle.m2v_enc_stream.proofs.Turns.{IsCounted, IsTurn, turn_at}
use Rattle.m2v_enc_stream.proofs.States.{next_sequence, next_group, same_sequence, state_before, state_at, header_after}
use Rattle.m2v_enc_stream.proofs.CalmHeaders.{sequence_calm, sequence_extension_calm, group_calm, picture_calm, coding_calm}
use Rattle.m2v_enc_stream.proofs.Zeros.{padded, Holds, holds_packs, holds_zeros}
use Rattle.m2v_enc_stream.proofs.SliceUnits.{Spelled, slice_bytes, task_slice, rows_chain}
use Rattle.m2v_enc_stream.proofs.TreePictures.{sequence_bytes, extension_bytes, group_bytes, picture_bytes, coding_bytes, sequence_reads, group_reads, picture_reads}

-- ---- the units of a picture

abbrev pub header_bytes : Settings → PictureJob → ℕ → Units
header_bytes s job delay =
    cond (begins_group job) (sequence_bytes s ∷ extension_bytes s ∷ group_bytes s (job.display - job.frame) ∷ []) []
    ++ picture_bytes job delay ∷ coding_bytes s job ∷ []

-- the slices of a picture, behind the last of which zero bytes stand
abbrev pub slices_bytes : Book → ℕ → ℕ → Units
slices_bytes b p zeros = map (λ r. padded (slice_bytes b p r) 0) (range_with_len 0 (rows b - 1)) ++ padded (slice_bytes b p (rows b - 1)) zeros ∷ []

abbrev pub picture_units_of : Book → Entries → Bool → ℕ → ℕ → Units
picture_units_of b l ends at p = header_bytes b.settings (job_at b p) (delay_at l (job_at b p) p at) ++ slices_bytes b p (zeros_of l ends p / 8)

-- ---- where a picture may begin

-- a state in which picture p of a group can follow
pub record IsReady (b : Book) (before p : ℕ) (st : State) : Type 0 where
  pub complete : is_complete st.sequence st.picture ≡ true
  pub same : is_same_sequence st.first (sequence_by b.settings) ≡ true
  pub waits : none_waits st.waiting ≡ none_waits (waiting_behind b p)
  pub behind : (closed : Bool) × (after st (sequence (sequence_by b.settings)) ≡ state_before b closed before p None)
  pub plain : begins_group (job_at b p) ≡ false → (closed : Bool) × ((open_one : Option Open) × (st ≡ state_before b closed before p open_one))

-- behind other pictures
pub ready_at : (b : Book) (closed : Bool) (before p : ℕ) (open_one : Option Open) → is_complete (Some (sequence_by b.settings)) open_one ≡ true
    → IsReady b before p (state_before b closed before p open_one)
ready_at b closed before p open_one complete = record {
  complete = complete;
  same = same_sequence b.settings;
  waits = refl;
  behind = (closed, next_sequence b.settings closed (anchors_behind before b p) (waiting_behind b p) open_one);
  plain = λ e. (closed, (open_one, refl));
}

-- a picture that begins a group is no second field
first_none : (w : Option FirstField) (job : PictureJob) → IsTurn w job → begins_group job ≡ true → none_waits w ≡ true
unfolding begins_group
first_none w job (inl t) e = ap none_waits t.0
first_none w job (inr (inl t)) e = ap none_waits t.0
first_none w job (inr (inr t)) e =
    let two = (and_parts (nat_eq job.kind 1) (not (nat_eq job.structure 2)) e).1 in
    let f : false ≡ true = sym (ap (λ (n : ℕ). not (nat_eq n 2)) t.1) ∙ two in
    absurd cc

-- ---- headers

-- a part, and the others behind it
linked : (st mid z : State) (p : Part) (ps : List Part) (u : List ℕ) (others us : Units) → Reads st p u others → after st p ≡ mid → Chain mid ps us z → Chain st (p ∷ ps) (u ∷ (others ++ us)) z
linked st mid z p ps u others us r e c = link r (subst (λ (x : State). Chain x ps us z) (sym e) c)

-- the headers of a picture lead to its slices
pub record Headed (b : Book) (before p delay : ℕ) (st : State) (parts : List Part) (units : Units) : Type 0 where
  pub closed : Bool
  pub chain : Chain st parts units (state_at b closed before p delay 0)

one_header : (b : Book) → IsBook b → (closed : Bool) (before p delay : ℕ) (open_one : Option Open) → IsCounted b before → p < length b.pictures → delay < 65536
    → is_complete (Some (sequence_by b.settings)) open_one ≡ true
    → Chain (state_before b closed before p open_one) (picture (picture_of (job_at b p) delay) (extension_of b.settings (job_at b p)) ∷ []) (picture_bytes (job_at b p) delay ∷ coding_bytes b.settings (job_at b p) ∷ []) (state_at b closed before p delay 0)
one_header b h closed before p delay open_one c lt small complete =
    linked (state_before b closed before p open_one) (state_at b closed before p delay 0) (state_at b closed before p delay 0)
    (picture (picture_of (job_at b p) delay) (extension_of b.settings (job_at b p))) [] (picture_bytes (job_at b p) delay) (coding_bytes b.settings (job_at b p) ∷ []) []
    (picture_reads b h closed before p delay open_one c lt small complete) (header_after b h closed before p delay open_one c lt) nothing

headed_plain : (b : Book) → IsBook b → (before p delay : ℕ) (st : State) → IsCounted b before → p < length b.pictures → delay < 65536 → IsReady b before p st → begins_group (job_at b p) ≡ false
    → Headed b before p delay st (picture (picture_of (job_at b p) delay) (extension_of b.settings (job_at b p)) ∷ []) (picture_bytes (job_at b p) delay ∷ coding_bytes b.settings (job_at b p) ∷ [])
headed_plain b h before p delay st c lt small ready e =
    let x = ready.plain e in
    let closed = x.0 in
    let open_one = x.1.0 in
    let complete = subst (λ (t : State). is_complete t.sequence t.picture ≡ true) x.1.1 ready.complete in
    record {
      closed = closed;
      chain = subst (λ (t : State). Chain t (picture (picture_of (job_at b p) delay) (extension_of b.settings (job_at b p)) ∷ []) (picture_bytes (job_at b p) delay ∷ coding_bytes b.settings (job_at b p) ∷ []) (state_at b closed before p delay 0)) (sym x.1.1)
          (one_header b h closed before p delay open_one c lt small complete);
    }

headed_group : (b : Book) → IsBook b → (before p delay : ℕ) (st : State) → IsCounted b before → p < length b.pictures → delay < 65536 → IsReady b before p st → begins_group (job_at b p) ≡ true
    → Headed b before p delay st
    (sequence (sequence_by b.settings) ∷ group (group_from b.settings ((job_at b p).display - (job_at b p).frame)) ∷ picture (picture_of (job_at b p) delay) (extension_of b.settings (job_at b p)) ∷ [])
    (sequence_bytes b.settings ∷ extension_bytes b.settings ∷ group_bytes b.settings ((job_at b p).display - (job_at b p).frame) ∷ picture_bytes (job_at b p) delay ∷ coding_bytes b.settings (job_at b p) ∷ [])
headed_group b h before p delay st c lt small ready e =
    let s = b.settings in
    let job = job_at b p in
    let first = job.display - job.frame in
    let g = group_from s first in
    let known = bounds s (passes_of b h) in
    let none = first_none (waiting_behind b p) job (turn_at b h p lt) e in
    let a = anchors_behind before b p in
    let w = waiting_behind b p in
    let closed = ready.behind.0 in
    record {
      closed = g.closed_gop;
      chain = linked st (state_before b closed before p None) (state_at b g.closed_gop before p delay 0) (sequence (sequence_by s)) _ (sequence_bytes s) (extension_bytes s ∷ []) _
          (sequence_reads s st known.size known.choice ready.complete (ready.waits ∙ none) ready.same) ready.behind.1
          (linked (state_before b closed before p None) (state_before b g.closed_gop before p None) (state_at b g.closed_gop before p delay 0) (group g) _ (group_bytes s first) [] _
          (group_reads s closed a first w none) (next_group s closed a w None g)
          (one_header b h g.closed_gop before p delay None c lt small refl));
    }

headed : (b : Book) → IsBook b → (before p delay : ℕ) (st : State) → IsCounted b before → p < length b.pictures → delay < 65536 → IsReady b before p st
    → Headed b before p delay st (header_parts b.settings (job_at b p) delay) (header_bytes b.settings (job_at b p) delay)
unfolding header_parts
headed b h before p delay st c lt small ready = by_begin (begins_group (job_at b p)) refl
  where
    by_begin : (x : Bool) → begins_group (job_at b p) ≡ x
        → Headed b before p delay st
        (cond x (sequence (sequence_by b.settings) ∷ group (group_from b.settings ((job_at b p).display - (job_at b p).frame)) ∷ []) [] ++ picture (picture_of (job_at b p) delay) (extension_of b.settings (job_at b p)) ∷ [])
        (cond x (sequence_bytes b.settings ∷ extension_bytes b.settings ∷ group_bytes b.settings ((job_at b p).display - (job_at b p).frame) ∷ []) [] ++ picture_bytes (job_at b p) delay ∷ coding_bytes b.settings (job_at b p) ∷ [])
    by_begin true e = headed_group b h before p delay st c lt small ready e
    by_begin false e = headed_plain b h before p delay st c lt small ready e

-- ---- pictures

rows_some : (scan : Scan) (height : ℕ) → 1 ≤ height → 1 ≤ rows_by scan height
unfolding rows_by
rows_some Progressive height some = omega (arith, some)
rows_some Frames height some = omega (arith, some)
rows_some Fields height some = omega (arith, some)

tall_some : (scan : Scan) (height : ℕ) → line_step scan ≤ height → 1 ≤ height
unfolding is_progressive
tall_some Progressive height le = omega (arith, le)
tall_some Frames height le = omega (arith, le)
tall_some Fields height le = omega (arith, le)

pub some_rows : (b : Book) → IsBook b → 1 ≤ rows b
some_rows b h =
    let tall = (bounds b.settings (passes_of b h)).size.tall in
    rows_some b.settings.scan b.settings.height (tall_some b.settings.scan b.settings.height tall)

-- a picture is read up to its last row
pub record PictureRead (b : Book) (before p delay : ℕ) (st : State) (parts : List Part) (units : Units) : Type 0 where
  pub closed : Bool
  pub chain : Chain st parts units (state_at b closed before p delay (rows b))

pub picture_read : (law : Spelled) (b : Book) → IsBook b → (l : Entries) (ends : Bool) (before p at : ℕ) (st : State) → IsCounted b before → p < length b.pictures → delay_at l (job_at b p) p at < 65536 → IsReady b before p st
    → PictureRead b before p (delay_at l (job_at b p) p at) st (picture_parts b l at p) (picture_units_of b l ends at p)
unfolding picture_parts
picture_read law b h l ends before p at st c lt small ready =
    let delay = delay_at l (job_at b p) p at in
    let head = headed b h before p delay st c lt small ready in
    let some = some_rows b h in
    record {
      closed = head.closed;
      chain = chain_then head.chain (rows_chain law b h head.closed before p delay c lt (rows b - 1) (zeros_of l ends p / 8) (omega (arith, some)));
    }

-- ---- texts

group_holds : (s : Settings) (first : ℕ) → InSize s → InChoice s → Packs (group_units s first) (sequence_bytes s ∷ extension_bytes s ∷ group_bytes s first ∷ [])
unfolding group_units
group_holds s first h c =
    packs_append _ _ (sequence_bytes s ∷ []) (extension_bytes s ∷ group_bytes s first ∷ []) (packs_unit 0xB3 (sequence_text (sequence_of s)) (omega arith) (sequence_calm s h c))
    (packs_append _ _ (extension_bytes s ∷ []) (group_bytes s first ∷ []) (packs_unit 0xB5 (sequence_extension_text (sequence_extension_of s)) (omega arith) (sequence_extension_calm s h))
    (packs_unit 0xB8 (group_text (group_from s first)) (omega arith) (group_calm s first)))

picture_holds : (s : Settings) (job : PictureJob) (delay : ℕ) → (1 ≤ job.kind) × (job.kind ≤ 3) → Packs (picture_units s job delay) (picture_bytes job delay ∷ coding_bytes s job ∷ [])
unfolding picture_units
picture_holds s job delay kind =
    packs_append _ _ (picture_bytes job delay ∷ []) (coding_bytes s job ∷ []) (packs_unit 0x00 (picture_text (picture_of job delay)) (omega arith) (picture_calm job delay kind))
    (packs_unit 0xB5 (picture_extension_text (extension_of s job)) (omega arith) (coding_calm s job kind))

header_holds : (s : Settings) (job : PictureJob) (delay : ℕ) → InSize s → InChoice s → (1 ≤ job.kind) × (job.kind ≤ 3) → Holds (header_units s job delay) (header_bytes s job delay)
unfolding header_units
header_holds s job delay h c kind = by_begin (begins_group job)
  where
    by_begin : (x : Bool) → Holds (cond x (group_units s (job.display - job.frame)) [] ++ picture_units s job delay)
        (cond x (sequence_bytes s ∷ extension_bytes s ∷ group_bytes s (job.display - job.frame) ∷ []) [] ++ picture_bytes job delay ∷ coding_bytes s job ∷ [])
    by_begin true =
        holds_packs _ _ (packs_append (group_units s (job.display - job.frame)) (picture_units s job delay) (sequence_bytes s ∷ extension_bytes s ∷ group_bytes s (job.display - job.frame) ∷ []) (picture_bytes job delay ∷ coding_bytes s job ∷ [])
        (group_holds s (job.display - job.frame) h c) (picture_holds s job delay kind))
    by_begin false = holds_packs (picture_units s job delay) (picture_bytes job delay ∷ coding_bytes s job ∷ []) (picture_holds s job delay kind)

-- the text of a slice
abbrev slice_unit_text : Book → ℕ → ℕ → List Bool
slice_unit_text b p r = unit (r + 1) (slice_body (task_at b p r))

texts_are : (b : Book) (n p : ℕ) → p < n → flat_map (λ (x : CodedSlice). x.text) (picture_at (coded b n) p).slices ≡ flat_map (slice_unit_text b p) (range_with_len 0 (rows b))
unfolding slice_of task_of
texts_are b n p lt =
    ap (λ (x : CodedPicture). flat_map (λ (y : CodedSlice). y.text) x.slices) (picture_is b n p lt)
    ∙ ap (flat_map (λ (y : CodedSlice). y.text)) (slices_are b p)
    ∙ ap (λ (x : Plan). flat_map (λ (y : CodedSlice). y.text) (map (λ r. slice_of (task_of b (coded b p) p x r)) (range_with_len 0 (rows b)))) (next_plan b p)
    ∙ flat_map-map (λ (y : CodedSlice). y.text) (λ r. slice_of (task_at b p r)) (range_with_len 0 (rows b))

holds_map : (text : ℕ → List Bool) (bytes : ℕ → List ℕ) (from n : ℕ) → ((k : ℕ) → k < from + n → Holds (text k) (bytes k ∷ [])) → Holds (flat_map text (range_with_len from n)) (map bytes (range_with_len from n))
holds_map text bytes from zero each = holds_packs [] [] packs_none
holds_map text bytes from (suc n) each =
    packs_append (text from) (flat_map text (range_with_len (from + 1) n)) (bytes from ∷ []) (map bytes (range_with_len (from + 1) n)) (each from (omega arith))
    (holds_map text bytes (from + 1) n (λ k lt. each k (omega (arith, lt))))

slice_holds : (law : Spelled) (b : Book) → IsBook b → (p r zeros : ℕ) → p < length b.pictures → r < rows b → Holds (slice_unit_text b p r ++ replicate (8 * zeros) false) (padded (slice_bytes b p r) zeros ∷ [])
slice_holds law b h p r zeros lt small =
    let few = rows_few b (bounds b.settings (passes_of b h)) in
    holds_zeros (r + 1) zeros (slice_body (task_at b p r)) (omega (arith, few, small)) (law.calm (task_at b p r) (task_slice b h p r lt small))

slice_alone : (law : Spelled) (b : Book) → IsBook b → (p r : ℕ) → p < length b.pictures → r < rows b → Holds (slice_unit_text b p r) (padded (slice_bytes b p r) 0 ∷ [])
slice_alone law b h p r lt small =
    subst (λ (t : List Bool). Holds t (padded (slice_bytes b p r) 0 ∷ [])) (append-nil (slice_unit_text b p r)) (slice_holds law b h p r 0 lt small)

slices_hold : (law : Spelled) (b : Book) → IsBook b → (p zeros : ℕ) → p < length b.pictures
    → Holds (flat_map (slice_unit_text b p) (range_with_len 0 (rows b)) ++ replicate (8 * zeros) false) (slices_bytes b p zeros)
slices_hold law b h p zeros lt =
    let some = some_rows b h in
    let k = rows b - 1 in
    let e : k + 1 ≡ rows b = omega (arith, some) in
    let front = flat_map (slice_unit_text b p) (range_with_len 0 k) in
    let end = replicate (8 * zeros) false in
    let both = packs_append front (slice_unit_text b p k ++ end) (map (λ r. padded (slice_bytes b p r) 0) (range_with_len 0 k)) (padded (slice_bytes b p k) zeros ∷ [])
    (holds_map (slice_unit_text b p) (λ r. padded (slice_bytes b p r) 0) 0 k (λ r small. slice_alone law b h p r lt (omega (arith, small, some))))
    (slice_holds law b h p k zeros lt (omega (arith, some))) in
    let whole : flat_map (slice_unit_text b p) (range_with_len 0 (rows b)) ++ end ≡ front ++ (slice_unit_text b p k ++ end) =
    ap (λ (n : ℕ). flat_map (slice_unit_text b p) (range_with_len 0 n) ++ end) (sym e)
    ∙ ap (λ (t : List Bool). t ++ end) (texts_more (slice_unit_text b p) k)
    ∙ append_assoc front (slice_unit_text b p k) end in
    subst (λ (t : List Bool). Holds t (slices_bytes b p zeros)) (sym whole) both

-- the text of a picture that is coded
pub picture_text_holds : (law : Spelled) (b : Book) → IsBook b → (l : Entries) (ends : Bool) (n p at : ℕ) → p < length b.pictures → p < n
    → Holds (text_of b (coded b n) l ends at p) (picture_units_of b l ends at p)
unfolding text_of
picture_text_holds law b h l ends n p at lt there =
    let known = bounds b.settings (passes_of b h) in
    let delay = delay_at l (job_at b p) p at in
    let zeros = zeros_of l ends p / 8 in
    let whole = zeros_whole l ends p in
    let eight : 8 * zeros ≡ zeros_of l ends p = omega (arith, whole) in
    let rest = slices_hold law b h p zeros lt in
    let same : flat_map (slice_unit_text b p) (range_with_len 0 (rows b)) ++ replicate (8 * zeros) false ≡ flat_map (λ (x : CodedSlice). x.text) (picture_at (coded b n) p).slices ++ replicate (zeros_of l ends p) false =
    ap (λ (t : List Bool). t ++ replicate (8 * zeros) false) (sym (texts_are b n p there))
    ∙ ap (λ (k : ℕ). flat_map (λ (x : CodedSlice). x.text) (picture_at (coded b n) p).slices ++ replicate k false) eight in
    packs_append (header_units b.settings (job_at b p) delay) _ (header_bytes b.settings (job_at b p) delay) (slices_bytes b p zeros)
    (header_holds b.settings (job_at b p) delay known.size known.choice (picture_is_one b h p lt).kind)
    (subst (λ (t : List Bool). Holds t (slices_bytes b p zeros)) same rest)
