-- Reading on behind a picture's headers: what is told of units as a whole, by what reading with slices unread gives.
use Rattle.std.proofs.Common.{◌≡◌, ℕ, ◌+◌, ◌-◌, ◌*◌, ◌/◌, Bool, true, false, cond, List, [], ◌∷◌, ◌++◌, Option, Some, None, Result, Ok, Err, inl, inr, refl, sym, ap, subst, ◌∙◌, append_assoc, arith}
use Rattle.std.specs.Prelude.{nat_eq}
use Rattle.std.proofs.lemmas.Bool.{cases_Bool, eqb-true, both_ways}
use Rattle.std.proofs.lemmas.List.{append-nil}
use Rattle.m2v_bits.proofs.SyntaxLaws.{bad}
use Rattle.m2v_head.specs.declared.matrix.MatrixInfo.{MatrixInfo}
use Rattle.m2v_model.specs.declared.fault.FaultKind.{FaultKind}
use Rattle.m2v_model.specs.declared.setup.SliceSetup.{SliceSetup}
use Rattle.m2v_model.specs.declared.state.Sequence.{Sequence}
use Rattle.m2v_model.specs.declared.state.Open.{Open}
use Rattle.m2v_model.specs.declared.state.State.{State}
use Rattle.m2v_model.specs.Units.{Units, unit_bits, body}
use Rattle.m2v_model.specs.States.{picture_rows, slice_setup, with_slice, crowded_by, after_matrices}
use Rattle.m2v_model.specs.Slices.{Slice, slice_at, large_in}
use Rattle.m2v_model.specs.Streams.{Part, sequence, group, picture, matrices, slice, unread_slice, skipped_unit, ending, over, after}
use Rattle.m2v_model.specs.Pictures.{Store, Events, picture_of, slice_painted}
use Rattle.m2v_model.specs.ByPieces.{Between, Course, units_read, unit_read}
use Rattle.m2v_model.specs.HeadersOnly.{FrontRead, faulty, final_unit, more}
use Rattle.m2v_model.proofs.CutLaws.{joined_bits}
use Rattle.m2v_model.proofs.FlowLaws.{read_err, read_more}
use Rattle.m2v_model.proofs.SplitLaws.{behind_none}
use Rattle.m2v_model.proofs.PieceLaws.{placed}
use Rattle.m2v_dec_rows.specs.Rows.{Unread, Slices, Placed, Begun, Read, placed_by, slice_read, slices_read, and_slice}
use Rattle.m2v_dec_rows.specs.ByRows.{AreOrdered}
use Rattle.m2v_dec_rows.proofs.OwnLaws.{slices_stopped}
use Rattle.m2v_dec_rows.proofs.ByRowLaws.{prefixed}
use Rattle.m2v_dec_rows.specs.Headers.{stopped_from, with_part, slices_by}
use Rattle.m2v_dec_rows.specs.OnePicture.{NoneBegins}
use Rattle.m2v_dec_rows.proofs.Behind.{Outcome, open_at, skim_at, slice_told, Alike, tail_of, unit_alike}
use Rattle.m2v_dec_rows.proofs.Painting.{at_open, Tells, frames_behind, ends, front}

-- the same state with other matrices
abbrev pub loaded : State → List ℕ → List ℕ → State
loaded z intra non_intra = record z { intra = intra; non_intra = non_intra }

-- the same picture behind slices that stay unread
abbrev pub reached : Open → Bool → ℕ → Open
reached o has_slice row = record o { has_slice = has_slice; row = row }

-- the matrices in force where reading stops, and how far the picture's slices were passed over
pub record Skimmed : Type 0 where
  pub intra : List ℕ
  pub non_intra : List ℕ
  pub has_slice : Bool
  pub row : ℕ

-- no unit was passed over
abbrev unmoved : State → Open → Skimmed
unmoved z o = record { intra = z.intra; non_intra = z.non_intra; has_slice = o.has_slice; row = o.row }

-- Where reading on stops, as the headers that were loaded and the picture that is open have come on, and the slices, each
-- list of which grows behind those before it.
pub record Stands (final : State) (loaded : List ℕ → List ℕ → State) (s : Sequence) (o : Open) (slices : Slices → Slices) : Type 0 where
  pub at : Skimmed
  pub open at use *
  pub final_is : final ≡ skim_at (loaded intra non_intra) s (reached o has_slice row)
  pub are : (now : Slices) → slices now ≡ now ++ slices []
  pub ordered : AreOrdered o.row (picture_rows s o) (slices [])

-- What reading on gives, from an open picture on: the state where it stops, the slices, and what is told of the same
-- units as a whole.
pub record Rest (z : State) (s : Sequence) (o : Open) (store : Store) (end : ℕ) (us : Units) (parts : List Part) (fault : Option (FaultKind × ℕ)) (st : State) (r : FrontRead st us parts fault) : Type 0 where
  pub stands : Stands (stopped_from st parts) (loaded z) s o (λ now. slices_by end now r)
  pub open stands use *
  -- no matrices are loaded behind a slice
  pub kept : o.has_slice ≡ true → (intra ≡ z.intra) × (non_intra ≡ z.non_intra)
  pub told : Tells end (slice_setup (loaded z intra non_intra) s o) (loaded z intra non_intra) s o store fault
      (slices_read (slice_setup (loaded z intra non_intra) s o) (Ok ([], o.covered)) (slices_by end [] r))
      (placed end (units_read (at_open z s o store) us))

-- ---- one unit

pub alike_at : (z : State) (s : Sequence) (o : Open) (us : Units) (r : Outcome) → NoneBegins us → unit_read (skim_at z s o) us ≡ r → Alike z s o (tail_of us) r (unit_read (open_at z s o) us)
alike_at z s o us r n e = subst (λ (x : Outcome). Alike z s o (tail_of us) x (unit_read (open_at z s o) us)) e (unit_alike z s o us n)

pub none_behind : (us mid : Units) → NoneBegins us → mid ≡ tail_of us → NoneBegins mid
none_behind [] mid n e = subst NoneBegins (sym e) tt
none_behind (u ∷ us) mid n e = subst NoneBegins (sym e) n.1

-- ---- where reading stops

fault_rest : (z : State) (s : Sequence) (o : Open) (store : Store) (end : ℕ) (us : Units) (f : FaultKind × ℕ) (e : unit_read (skim_at z s o) us ≡ Err f) → NoneBegins us → Rest z s o store end us [] (Some f) (skim_at z s o) (faulty e)
unfolding stopped_from slices_by slices_read
fault_rest z s o store end us f e n = record {
  stands = record { at = unmoved z o; final_is = refl; are = λ now. sym (append-nil now); ordered = tt };
  kept = λ has. (refl, refl);
  told = ap (placed end) (read_err (at_open z s o store) us f (alike_at z s o us (Err f) n e));
}

over_rest : (z : State) (s : Sequence) (o : Open) (store : Store) (end : ℕ) (us rest : Units) (e : unit_read (skim_at z s o) us ≡ Ok ((false, over), rest)) → o.slices_unread ≡ false → NoneBegins us
    → Rest z s o store end us (over ∷ []) None (skim_at z s o) (final_unit e)
unfolding stopped_from slices_by slices_read
over_rest z s o store end us rest e unread n = record {
  stands = record { at = unmoved z o; final_is = refl; are = λ now. sym (append-nil now); ordered = tt };
  kept = λ has. (refl, refl);
  told = ends end z s o store us rest unread (alike_at z s o us (Ok ((false, over), rest)) n e).1;
}

-- ---- units that aren't slices

matrices_read : (z : State) (s : Sequence) (o : Open) (store : Store) (us mid t : Units) (m : MatrixInfo) → mid ≡ t → unit_read (open_at z s o) us ≡ Ok ((true, matrices m), t)
    → units_read (at_open z s o store) us ≡ units_read (at_open (after_matrices z m) s o store) mid
unfolding after
matrices_read z s o store us mid t m same e =
    read_more (at_open z s o store) us t true (matrices m) e refl ∙ behind_none _ ∙ ap (λ (l : Units). units_read (at_open (after_matrices z m) s o store) l) (sym same)

matrices_rest : (z : State) (s : Sequence) (o : Open) (store : Store) (end : ℕ) (us mid : Units) (m : MatrixInfo) (ps : List Part) (fault : Option (FaultKind × ℕ))
    (e : unit_read (skim_at z s o) us ≡ Ok ((true, matrices m), mid)) (later : FrontRead (after (skim_at z s o) (matrices m)) mid ps fault) → NoneBegins us
    → Rest (after_matrices z m) s o store end mid ps fault (after (skim_at z s o) (matrices m)) later → Rest z s o store end us (matrices m ∷ ps) fault (skim_at z s o) (more e later)
unfolding after stopped_from slices_by with_part
matrices_rest z s o store end us mid m ps fault e later n h =
    let a = alike_at z s o us (Ok ((true, matrices m), mid)) n e in
    record {
      stands = h.stands;
      kept = λ has. absurd (both_ways _ a.2 has);
      told = subst (Tells end _ _ s o store fault _) (ap (placed end) (sym (matrices_read z s o store us mid (tail_of us) m a.1 a.3))) h.told;
    }

skipped_read : (z : State) (s : Sequence) (o : Open) (store : Store) (us mid t : Units) (u : List ℕ) → mid ≡ t → unit_read (open_at z s o) us ≡ Ok ((true, skipped_unit u), t)
    → units_read (at_open z s o store) us ≡ units_read (at_open z s o store) mid
unfolding after
skipped_read z s o store us mid t u same e =
    read_more (at_open z s o store) us t true (skipped_unit u) e refl ∙ behind_none _ ∙ ap (λ (l : Units). units_read (at_open z s o store) l) (sym same)

skipped_rest : (z : State) (s : Sequence) (o : Open) (store : Store) (end : ℕ) (us mid : Units) (u : List ℕ) (ps : List Part) (fault : Option (FaultKind × ℕ))
    (e : unit_read (skim_at z s o) us ≡ Ok ((true, skipped_unit u), mid)) (later : FrontRead (after (skim_at z s o) (skipped_unit u)) mid ps fault) → NoneBegins us
    → Rest z s o store end mid ps fault (after (skim_at z s o) (skipped_unit u)) later → Rest z s o store end us (skipped_unit u ∷ ps) fault (skim_at z s o) (more e later)
unfolding after stopped_from slices_by with_part
skipped_rest z s o store end us mid u ps fault e later n h =
    let a = alike_at z s o us (Ok ((true, skipped_unit u), mid)) n e in
    record {
      stands = h.stands;
      kept = h.kept;
      told = subst (Tells end _ _ s o store fault _) (ap (placed end) (sym (skipped_read z s o store us mid (tail_of us) u a.1 a.2))) h.told;
    }

-- ---- slices

-- the picture behind a slice of a row
abbrev pub sliced_open : Open → ℕ → ℕ → ℕ → ℕ → Open
sliced_open o row covered large crowded = record o { has_slice = true; row = row; covered = covered; large_macroblocks = large; crowded_row = crowded }

sliced_is : (o : Open) (row covered new : ℕ) → (large : ℕ) × (crowded : ℕ) × (with_slice (Some o) row covered new ≡ Some (sliced_open o row covered large crowded))
sliced_is o row covered new = elim (cases_Bool (nat_eq row o.row)) [
  | inl on ↦
      let same : o.row ≡ row = sym (eqb-true row o.row on) in
      (o.large_macroblocks + new, o.crowded_row, rw on (ap (λ (r : ℕ). Some (record o { has_slice = true; row = r; covered = covered; large_macroblocks = o.large_macroblocks + new })) same))
  | inr off ↦ (new, crowded_by o, rw off refl)
]

-- behind a slice the matrices stay
record Settled (z : State) (s : Sequence) (o : Open) (store : Store) (end : ℕ) (us : Units) (parts : List Part) (fault : Option (FaultKind × ℕ)) (st : State) (r : FrontRead st us parts fault) : Type 0 where
  has_slice : Bool
  row : ℕ
  final_is : stopped_from st parts ≡ skim_at z s (reached o has_slice row)
  are : (now : Slices) → slices_by end now r ≡ now ++ slices_by end [] r
  ordered : AreOrdered o.row (picture_rows s o) (slices_by end [] r)
  told : Tells end (slice_setup z s o) z s o store fault (slices_read (slice_setup z s o) (Ok ([], o.covered)) (slices_by end [] r)) (placed end (units_read (at_open z s o store) us))

settled : {z : State} {s : Sequence} {o : Open} {store : Store} {end : ℕ} {us : Units} {parts : List Part} {fault : Option (FaultKind × ℕ)} {st : State} {r : FrontRead st us parts fault}
    → Rest z s o store end us parts fault st r → o.has_slice ≡ true → Settled z s o store end us parts fault st r
settled {z} {s} {o} {store} {end} {us} {parts} {fault} {st} {r} h has =
    let k = h.kept has in
    let Final = λ (i n : List ℕ). stopped_from st parts ≡ skim_at (loaded z i n) s (reached o h.has_slice h.row) in
    let Told = λ (i n : List ℕ). Tells end (slice_setup (loaded z i n) s o) (loaded z i n) s o store fault (slices_read (slice_setup (loaded z i n) s o) (Ok ([], o.covered)) (slices_by end [] r)) (placed end (units_read (at_open z s o store) us)) in
    record {
      has_slice = h.has_slice;
      row = h.row;
      final_is = subst (Final z.intra) k.1 (subst (λ (i : List ℕ). Final i h.non_intra) k.0 h.final_is);
      are = h.are;
      ordered = h.ordered;
      told = subst (Told z.intra) k.1 (subst (λ (i : List ℕ). Told i h.non_intra) k.0 h.told);
    }

-- what is told behind a slice that was read
slice_read_on : (z : State) (s : Sequence) (o : Open) (store : Store) (us mid t : Units) (row : ℕ) (x : Slice) (large crowded : ℕ) → with_slice (Some o) row x.covered (large_in x) ≡ Some (sliced_open o row x.covered large crowded) → mid ≡ t
    → unit_read (open_at z s o) us ≡ Ok ((true, slice row x), t)
    → units_read (at_open z s o store) us ≡ units_read (at_open z s (sliced_open o row x.covered large crowded) (frames_behind (slice_setup z s o) (record { row = row; before = o.covered; slice = x }) store)) mid
unfolding after slice_painted slice_setup
slice_read_on z s o store us mid t row x large crowded is same e =
    let b : Begun = record { row = row; before = o.covered; slice = x } in
    read_more (at_open z s o store) us t true (slice row x) e refl ∙ behind_none _
    ∙ ap (λ (p : Option Open). units_read (record { state = record (open_at z s o) { picture = p }; store = frames_behind (slice_setup z s o) b store }) t) is
    ∙ ap (λ (l : Units). units_read (at_open z s (sliced_open o row x.covered large crowded) (frames_behind (slice_setup z s o) b store)) l) (sym same)

-- the slice as it stands among those that stay unread
abbrev pub unread_at : ℕ → ℕ → List ℕ → Units → Unread
unread_at end row u mid = record { row = row; unit = u; end = end - unit_bits mid / 8 }

same_place : (end left : ℕ) (mid t : Units) → mid ≡ t → 8 * end - (left + unit_bits t) ≡ 8 * (end - unit_bits mid / 8) - left
same_place end left mid t same =
    let bits = joined_bits mid in
    let same_bits : unit_bits t ≡ unit_bits mid = ap (λ (l : Units). unit_bits l) (sym same) in
    omega (arith, bits, same_bits)

abbrev begun_at : Open → ℕ → Slice → Begun
begun_at o row x = record { row = row; before = o.covered; slice = x }

-- what is told of a picture doesn't look at how far its slices were read
opens_same : (end : ℕ) (setup : SliceSetup) (z : State) (s : Sequence) (o : Open) (row covered large crowded : ℕ) (store : Store) (fault : Option (FaultKind × ℕ)) (read : Read) (r : Course)
    → Tells end setup z s (sliced_open o row covered large crowded) store fault read r → Tells end setup z s o store fault read r
unfolding picture_of
opens_same end setup z s o row covered large crowded store fault (Err g) r t = t
opens_same end setup z s o row covered large crowded store (Some f) (Ok y) r t = t
opens_same end setup z s o row covered large crowded store None (Ok y) r t = record { covered = t.covered; missing = t.missing }

slice_first : (setup : SliceSetup) (end covered row : ℕ) (u : List ℕ) (mid : Units) (vs : Slices) (r : Result (Slice × List Bool) (FaultKind × ℕ)) → (slice_at setup covered row).read (body u) ≡ r
    → slices_read setup (Ok ([], covered)) (unread_at end row u mid ∷ vs) ≡ slices_read setup (and_slice [] row covered (placed_by (end - unit_bits mid / 8) r)) vs
unfolding slices_read slice_read
slice_first setup end covered row u mid vs r own = ap (λ (q : Result (Slice × List Bool) (FaultKind × ℕ)). slices_read setup (and_slice [] row covered (placed_by (end - unit_bits mid / 8) q)) vs) own

-- what is told of a slice and those behind it
slice_tells : (z : State) (s : Sequence) (o : Open) (store : Store) (end : ℕ) (us mid t : Units) (row : ℕ) (u : List ℕ) (fault : Option (FaultKind × ℕ)) (vs : Slices) (r : Result (Slice × List Bool) (FaultKind × ℕ))
    → mid ≡ t → (slice_at (slice_setup z s o) o.covered row).read (body u) ≡ r → unit_read (open_at z s o) us ≡ slice_told row t r
    → ((x : Slice) (large crowded : ℕ)
    → Tells end (slice_setup z s o) z s (sliced_open o row x.covered large crowded) (frames_behind (slice_setup z s o) (begun_at o row x) store) fault
    (slices_read (slice_setup z s o) (Ok ([], x.covered)) vs)
    (placed end (units_read (at_open z s (sliced_open o row x.covered large crowded) (frames_behind (slice_setup z s o) (begun_at o row x) store)) mid)))
    → Tells end (slice_setup z s o) z s o store fault (slices_read (slice_setup z s o) (Ok ([], o.covered)) (unread_at end row u mid ∷ vs)) (placed end (units_read (at_open z s o store) us))
slice_tells z s o store end us mid t row u fault vs (Ok x) same own e h =
    let setup = slice_setup z s o in
    let begun = begun_at o row x.0 in
    let is = sliced_is o row x.0.covered (large_in x.0) in
    let course = slice_read_on z s o store us mid t row x.0 is.0 is.1 is.2 same e in
    let read = slice_first setup end o.covered row u mid vs (Ok x) own ∙ prefixed setup (begun ∷ []) [] x.0.covered vs in
    let later = opens_same end setup z s o row x.0.covered is.0 is.1 (frames_behind setup begun store) fault _ _ (h x.0 is.0 is.1) in
    let now = front end setup z s o store begun fault _ _ later in
    subst (λ (y : Read). Tells end setup z s o store fault y (placed end (units_read (at_open z s o store) us))) (sym read)
    (subst (Tells end setup z s o store fault _) (ap (placed end) (sym course)) now)
slice_tells z s o store end us mid t row u fault vs (Err f) same own e h =
    let setup = slice_setup z s o in
    let g : Placed = (f.0, 8 * (end - unit_bits mid / 8) - f.1) in
    let read = slice_first setup end o.covered row u mid vs (Err f) own ∙ slices_stopped setup g vs in
    let course = ap (placed end) (read_err (at_open z s o store) us (f.0, f.1 + unit_bits t) e) ∙ ap (λ (n : ℕ). bad {T = Between} {V = Events} (f.0, n)) (same_place end f.1 mid t same) in
    subst (λ (y : Read). Tells end setup z s o store fault y (placed end (units_read (at_open z s o store) us))) (sym read) course

without_unread : (b : Bool) (row : ℕ) (u : List ℕ) (t : Units) (r : Outcome) → b ≡ false → cond b (Ok ((true, unread_slice row u), t)) r ≡ r
without_unread true row u t r e = absurd cc
without_unread false row u t r e = refl

slice_rest : (z : State) (s : Sequence) (o : Open) (store : Store) (end : ℕ) (us mid : Units) (row : ℕ) (u : List ℕ) (ps : List Part) (fault : Option (FaultKind × ℕ))
    (e : unit_read (skim_at z s o) us ≡ Ok ((true, unread_slice row u), mid)) (later : FrontRead (after (skim_at z s o) (unread_slice row u)) mid ps fault) → o.slices_unread ≡ false → NoneBegins us
    → ((covered large crowded : ℕ) (store2 : Store) → Rest z s (sliced_open o row covered large crowded) store2 end mid ps fault (after (skim_at z s o) (unread_slice row u)) later)
    → Rest z s o store end us (unread_slice row u ∷ ps) fault (skim_at z s o) (more e later)
unfolding after stopped_from slices_by with_part slice_setup
slice_rest z s o store end us mid row u ps fault e later unread n h =
    let a = alike_at z s o us (Ok ((true, unread_slice row u), mid)) n e in
    let own = (slice_at (slice_setup z s o) o.covered row).read (body u) in
    let whole : unit_read (open_at z s o) us ≡ slice_told row (tail_of us) own = a.4 ∙ without_unread o.slices_unread row u (tail_of us) (slice_told row (tail_of us) own) unread in
    let first = settled (h 0 0 0 store) refl in
    let v = unread_at end row u mid in
    let vs = slices_by end [] later in
    let all : v ∷ vs ≡ slices_by end (v ∷ []) later = sym (first.are (v ∷ [])) in
    record {
      stands = record {
        at = unmoved z (reached o first.has_slice first.row);
        final_is = first.final_is;
        are = λ now. first.are (now ++ v ∷ []) ∙ append_assoc now (v ∷ []) vs ∙ ap (λ (l : Slices). now ++ l) all;
        ordered = subst (AreOrdered o.row (picture_rows s o)) all (a.3, a.2, first.ordered);
      };
      kept = λ has. (refl, refl);
      told = subst (λ (l : Slices). Tells end (slice_setup z s o) z s o store fault (slices_read (slice_setup z s o) (Ok ([], o.covered)) l) (placed end (units_read (at_open z s o store) us))) all
          (slice_tells z s o store end us mid (tail_of us) row u fault vs own a.1 refl whole (λ x large crowded. (settled (h x.covered large crowded (frames_behind (slice_setup z s o) (begun_at o row x) store)) refl).told));
    }

-- ---- all units

pub never_one : {P : Type 0} → true ≡ false → P
never_one e = absurd cc

pub rest : (z : State) (s : Sequence) (o : Open) (store : Store) (end : ℕ) (us : Units) (parts : List Part) (fault : Option (FaultKind × ℕ)) (r : FrontRead (skim_at z s o) us parts fault) → o.slices_unread ≡ false → NoneBegins us
    → Rest z s o store end us parts fault (skim_at z s o) r
unfolding after
rest z s o store end us parts fault (faulty {f = f} e) unread n = fault_rest z s o store end us f e n
rest z s o store end us parts fault (final_unit {rest = last} {p = over} e) unread n = over_rest z s o store end us last e unread n
rest z s o store end us parts fault (final_unit {rest = last} {p = sequence x} e) unread n = absurd (alike_at z s o us (Ok ((false, sequence x), last)) n e)
rest z s o store end us parts fault (final_unit {rest = last} {p = group g} e) unread n = absurd (alike_at z s o us (Ok ((false, group g), last)) n e)
rest z s o store end us parts fault (final_unit {rest = last} {p = picture info extension} e) unread n = absurd (alike_at z s o us (Ok ((false, picture info extension), last)) n e)
rest z s o store end us parts fault (final_unit {rest = last} {p = matrices m} e) unread n = never_one (sym (alike_at z s o us (Ok ((false, matrices m), last)) n e).0)
rest z s o store end us parts fault (final_unit {rest = last} {p = slice row x} e) unread n = absurd (alike_at z s o us (Ok ((false, slice row x), last)) n e)
rest z s o store end us parts fault (final_unit {rest = last} {p = unread_slice row u} e) unread n = never_one (sym (alike_at z s o us (Ok ((false, unread_slice row u), last)) n e).0)
rest z s o store end us parts fault (final_unit {rest = last} {p = skipped_unit u} e) unread n = never_one (sym (alike_at z s o us (Ok ((false, skipped_unit u), last)) n e).0)
rest z s o store end us parts fault (final_unit {rest = last} {p = ending} e) unread n = absurd (alike_at z s o us (Ok ((false, ending), last)) n e)
rest z s o store end us parts fault (more {mid = mid} {p = sequence x} e later) unread n = absurd (alike_at z s o us (Ok ((true, sequence x), mid)) n e)
rest z s o store end us parts fault (more {mid = mid} {p = group g} e later) unread n = absurd (alike_at z s o us (Ok ((true, group g), mid)) n e)
rest z s o store end us parts fault (more {mid = mid} {p = picture info extension} e later) unread n = absurd (alike_at z s o us (Ok ((true, picture info extension), mid)) n e)
rest z s o store end us parts fault (more {mid = mid} {p = slice row x} e later) unread n = absurd (alike_at z s o us (Ok ((true, slice row x), mid)) n e)
rest z s o store end us parts fault (more {mid = mid} {p = ending} e later) unread n = absurd (alike_at z s o us (Ok ((true, ending), mid)) n e)
rest z s o store end us parts fault (more {mid = mid} {p = over} e later) unread n = never_one (alike_at z s o us (Ok ((true, over), mid)) n e).0
rest z s o store end us parts fault (more {mid = mid} {p = matrices m} {ps = ps} e later) unread n =
    let a = alike_at z s o us (Ok ((true, matrices m), mid)) n e in
    matrices_rest z s o store end us mid m ps fault e later n (rest (after_matrices z m) s o store end mid ps fault later unread (none_behind us mid n a.1))
rest z s o store end us parts fault (more {mid = mid} {p = skipped_unit u} {ps = ps} e later) unread n =
    let a = alike_at z s o us (Ok ((true, skipped_unit u), mid)) n e in
    skipped_rest z s o store end us mid u ps fault e later n (rest z s o store end mid ps fault later unread (none_behind us mid n a.1))
rest z s o store end us parts fault (more {mid = mid} {p = unread_slice row u} {ps = ps} e later) unread n =
    let a = alike_at z s o us (Ok ((true, unread_slice row u), mid)) n e in
    slice_rest z s o store end us mid row u ps fault e later unread n
    (λ covered large crowded store2. rest z s (sliced_open o row covered large crowded) store2 end mid ps fault later unread (none_behind us mid n a.1))
