-- What is read piece by piece behind a strand, and the places of its faults in the input.
use Rattle.std.proofs.Common.{◌≡◌, inl, inr, ℕ, ◌+◌, ◌-◌, ◌*◌, ◌≤◌, Bool, true, false, cond, List, [], ◌∷◌, ◌++◌, length, Option, Some, None, Ok, Err, refl, sym, ap, subst, ◌∙◌, append_assoc, append-nil, arith}
use Rattle.std.specs.Prelude.{max, if◌then◌else◌}
use Rattle.std.proofs.lemmas.List.{length-append}
use Rattle.m2v_model.specs.declared.fault.FaultKind.{FaultKind}
use Rattle.m2v_model.specs.declared.fault.FaultKind.TheVariants.{FieldPair, Truncated}
use Rattle.m2v_model.specs.declared.state.FirstField.{FirstField}
use Rattle.m2v_model.specs.declared.state.Open.{Open}
use Rattle.m2v_model.specs.Units.{Units, cut, joined, unit_bits, AreUnits}
use Rattle.m2v_model.specs.States.{none_waits}
use Rattle.m2v_model.specs.Pictures.{Events}
use Rattle.m2v_model.specs.ByPieces.{Between, Course, at_start, behind, continued, units_read, piece_read, text_ended, end_read}
use Rattle.m2v_model.proofs.CutLaws.{joined_bits, joined-append}
use Rattle.m2v_model.proofs.PieceLaws.{placed, piece_is, piece_none, no_ends-append}
use Rattle.m2v_model.proofs.ShiftLaws.{BeginsPiece, NoEnds}
use Rattle.m2v_model.proofs.SplitLaws.{IsKnown, KnownAt, known_at, over_seen}
use Rattle.m2v_model.proofs.CountLaws.{Told, open_count, pictures_told}
use Rattle.m2v_model.proofs.Unique.{bad_is}
use Rattle.m2v_law_group.specs.Groups.{is_sequence}
use Rattle.m2v_law_group.proofs.Lists.{no_ends_parts}
use Rattle.m2v_law_seam.specs.Spans.{units_of, units_in, Span, end_of_span}
use Rattle.m2v_law_seam.specs.Strands.{begins_sequence, has_end, last_open}
use Rattle.m2v_law_seam.specs.Strands as strands
use Rattle.m2v_law_seam.specs.Faults.{fault_by, fault_behind, ends_from, read_at}
use Rattle.m2v_law_seam.specs.Reading.{ended_read, BeginsOnePiece, BeginsSequence, ArePieces, CanGrow, CanGoBehind, HasRead}
use Rattle.m2v_law_seam.proofs.Strand.{none_ends, strand_units, own_units}
use Rattle.m2v_law_seam.proofs.Reading.{rested_same}
use Rattle.m2v_law_seam.proofs.ByUnits.{read_alone, grown, has_read, fault_on}

-- ---- what was read of a piece, by its units

pub placed_ok : (end : ℕ) (r : Course) (x : Events × Between) → placed end r ≡ Ok x → r ≡ Ok x
placed_ok end (Ok y) x e = e
placed_ok end (Err f) x e = absurd cc

pub piece_units_read : (b next : Between) (end : ℕ) (piece : List ℕ) (es : Events) → piece_read b end piece ≡ Ok (es, next) → units_read b (units_of piece) ≡ Ok (es, next)
piece_units_read b next end piece es e = placed_ok end (units_read b (units_of piece)) (es, next) (sym (piece_is b end piece) ∙ e)

-- a fault, with how much is left at its place
pub record HasFault (b : Between) (end : ℕ) (piece : List ℕ) (kind : FaultKind) (place : ℕ) : Type 0 where
  pub left : ℕ
  pub read : units_read b (units_of piece) ≡ Err (kind, left)
  pub at : place ≡ 8 * end - left

placed_err : (b : Between) (end : ℕ) (piece : List ℕ) (r : Course) (kind : FaultKind) (place : ℕ) → units_read b (units_of piece) ≡ r → placed end r ≡ Err (kind, place) → HasFault b end piece kind place
placed_err b end piece (Ok x) kind place u e = absurd cc
placed_err b end piece (Err f) kind place u e =
    let same : (f.0, 8 * end - f.1) ≡ (kind, place) = bad_is {T = Between} {V = Events} _ _ e in
    let k : f.0 ≡ kind = ap (λ (y : FaultKind × ℕ). y.0) same in
    record { left = f.1; read = u ∙ ap (λ (x : FaultKind). Err (x, f.1)) k; at = sym (ap (λ (y : FaultKind × ℕ). y.1) same) }

pub piece_fault : (b : Between) (end : ℕ) (piece : List ℕ) (kind : FaultKind) (place : ℕ) → piece_read b end piece ≡ Err (kind, place) → HasFault b end piece kind place
piece_fault b end piece kind place e = placed_err b end piece (units_read b (units_of piece)) kind place refl (sym (piece_is b end piece) ∙ e)

-- ---- between two pieces

-- what stands between two pieces has no picture open, and a sequence header in force once there is one
pub none_open : (o : Option Open) → open_count o ≡ 0 → o ≡ None
none_open None e = refl
none_open (Some p) e = absurd (omega (arith, e))

pub record AtRest (us : Units) (b : Between) : Type 0 where
  pub shut : b.state.picture ≡ None
  pub known : (v : List ℕ) (vs : Units) → (us ≡ [] → is_sequence v ≡ true) → KnownAt b.state (v ∷ vs)

pub rest_none : (b : Between) → b ≡ at_start → AtRest [] b
rest_none b e = subst (AtRest []) (sym e) (record { shut = refl; known = λ v vs first. first refl })

pub at_rest : (us : Units) (es : Events) (b : Between) → HasRead us es b → AtRest us b
at_rest [] es b h = rest_none b h.1
at_rest (u ∷ us) es b h =
    let t = subst (Told at_start (u ∷ us)) h.1 (pictures_told at_start (u ∷ us) h.0) in
    record { shut = none_open b.state.picture t.1; known = λ v vs first. known_at b.state (v ∷ vs) t.2 }

-- ---- the end of the text

pub end_is : (b : Between) (end : ℕ) → IsKnown b.state → b.state.picture ≡ None → end_read b end ≡ cond (none_waits b.state.waiting) (Ok ([], b)) (Err (FieldPair, 8 * end))
end_is b end known shut =
    let same = rested_same b shut in
    let read : units_read b [] ≡ Ok ([], b) = subst (λ (x : Between). units_read x [] ≡ Ok ([], x)) same (over_seen b known) in
    ap (text_ended end) (piece_none b end ∙ ap (placed end) read)

-- units that were read leave a sequence header in force, and no picture open
pub known_read : (u : List ℕ) (us : Units) (es : Events) (b : Between) → HasRead (u ∷ us) es b → IsKnown b.state
known_read u us es b h = let t = subst (Told at_start (u ∷ us)) h.1 (pictures_told at_start (u ∷ us) h.0) in t.2

-- ---- units of pieces

pub front_sequence : (us vs : Units) → BeginsOnePiece us → BeginsSequence (us ++ vs) → BeginsSequence us
front_sequence [] vs begins h = absurd begins
front_sequence (u ∷ us) vs begins h = h

pub never_none : (us vs : Units) → BeginsOnePiece vs → us ++ vs ≡ [] → ⊥
never_none us [] begins e = begins
never_none [] (v ∷ vs) begins e = absurd cc
never_none (u ∷ us) (v ∷ vs) begins e = absurd cc

pub first_is : (v : List ℕ) (vs ws : Units) → ws ≡ v ∷ vs → BeginsSequence ws → is_sequence v ≡ true
first_is v vs ws e b = subst BeginsSequence e b

-- bytes of pieces are those of their units
pub whole_bytes : (ps : List (List ℕ)) → ArePieces ps → joined ps ≡ joined (units_in ps)
unfolding units_in
whole_bytes [] a = refl
whole_bytes (p ∷ ps) a = ap (λ (l : List ℕ). l ++ joined ps) (sym (a.0).whole) ∙ ap (λ (l : List ℕ). joined (units_of p) ++ l) (whole_bytes ps a.1) ∙ sym (joined-append (units_of p) (units_in ps))

pub some_units : (ps : List (List ℕ)) → ArePieces ps → 1 ≤ length ps → (v : List ℕ) × (vs : Units) × (units_in ps ≡ v ∷ vs)
unfolding units_in
some_units [] a le = absurd (omega (arith, le))
some_units (p ∷ ps) a le = by_units (units_of p) refl (a.0).begins
  where
    by_units : (us : Units) → units_of p ≡ us → BeginsOnePiece us → (v : List ℕ) × (vs : Units) × (units_of p ++ units_in ps ≡ v ∷ vs)
    by_units [] e b = absurd b
    by_units (u ∷ us) e b = (u, us ++ units_in ps, ap (λ (l : Units). l ++ units_in ps) e)

-- bytes without a unit are none
pub no_units : units_of [] ≡ []
unfolding cut
no_units = refl

pub grow_none : (bytes : List ℕ) → CanGrow bytes → has_end (units_of bytes) ≡ false
unfolding has_end
grow_none bytes (inl e) = ap (λ (l : List ℕ). has_end (units_of l)) e ∙ ap has_end no_units
grow_none bytes (inr h) = h.1

pub none_grown : (bytes : List ℕ) → CanGrow bytes → units_of bytes ≡ [] → bytes ≡ []
none_grown bytes (inl e) none = e
none_grown bytes (inr h) none =
    let x = strand_units bytes h.0 h.1 h.2 in
    let wrong : x.h ∷ x.pm ≡ [] = sym (own_units bytes x) ∙ none in
    absurd cc

pub begins_later : (qs : List (List ℕ)) → ArePieces qs → BeginsPiece (units_in qs)
unfolding units_in
begins_later [] a = tt
begins_later (q ∷ qs) a = by_units (units_of q) (a.0).begins
  where
    by_units : (us : Units) → BeginsOnePiece us → BeginsPiece (us ++ units_in qs)
    by_units [] b = absurd b
    by_units (u ∷ us) b = b

-- ---- a fault

pub fault_units : (us : Units) (es : Events) (b : Between) (ws vs : Units) (f : FaultKind × ℕ) → HasRead us es b → NoEnds us → NoEnds ws → BeginsOnePiece ws → BeginsPiece vs → (us ≡ [] → BeginsSequence ws) → units_read b ws ≡ Err f → units_read at_start ((us ++ ws) ++ vs) ≡ Err (f.0, f.1 + unit_bits vs)
fault_units us es b [] vs f h none own begins later first e = absurd begins
fault_units us es b (w ∷ ws) vs f h none own begins later first e = fault_on us es b w ws vs f h none own begins later first e

-- ---- places

-- a fault of a strand with pieces behind it, so many bits in all, in bits of the input where they end at a byte: it is where
-- the pieces tell it, or where the strand would begin if all of it stood before that byte
pub record PlacedAt (end bits : ℕ) (r : Course) (kind : FaultKind) (place : ℕ) : Type 0 where
  pub told : ℕ
  pub is : ended_read bits r ≡ Err (kind, told)
  pub at : 8 * end + told - bits ≡ max place (8 * end - bits)

fault_there : (end at bits left more : ℕ) → 8 * end ≡ 8 * at + more → 8 * end + (bits - (left + more)) - bits ≡ max (8 * at - left) (8 * end - bits)
fault_there end at bits left more e = omega (arith, e)

pair_there : (end at bits : ℕ) → end ≡ at → 8 * end + bits - bits ≡ max (8 * at) (8 * end - bits)
pair_there end at bits e = omega (arith, e)

-- at the end a second field is due
due_placed : (o : Option FirstField) (es : Events) (b : Between) (bits at : ℕ) (kind : FaultKind) (place : ℕ) → b.state.waiting ≡ o → cond {A = Course} (none_waits o) (Ok ([], b)) (Err (FieldPair, 8 * at)) ≡ Err (kind, place) → PlacedAt at bits (Ok (es, b)) kind place
due_placed None es b bits at kind place w e = absurd cc
due_placed (Some f) es b bits at kind place w e =
    let same : (FieldPair, 8 * at) ≡ (kind, place) = bad_is {T = Between} {V = Events} _ _ e in
    let k : FieldPair ≡ kind = ap (λ (y : FaultKind × ℕ). y.0) same in
    let p : 8 * at ≡ place = ap (λ (y : FaultKind × ℕ). y.1) same in
    record {
      told = bits;
      is = ap (λ (x : Option FirstField). cond (none_waits x) (Ok (es, b)) (Err (FieldPair, bits))) w ∙ ap (λ (x : FaultKind). Err (x, bits)) k;
      at = pair_there at at bits refl ∙ ap (λ (n : ℕ). max n (8 * at - bits)) p;
    }

end_placed : (us : Units) (es : Events) (b : Between) (bits at : ℕ) (kind : FaultKind) (place : ℕ) → BeginsSequence us → HasRead us es b → end_read b at ≡ Err (kind, place) → PlacedAt at bits (units_read at_start us) kind place
end_placed [] es b bits at kind place some h e = absurd some
end_placed (u ∷ us) es b bits at kind place some h e =
    let ends = end_is b at (known_read u us es b h) (at_rest (u ∷ us) es b h).shut in
    subst (λ (r : Course). PlacedAt at bits r kind place) (sym h.1) (due_placed b.state.waiting es b bits at kind place refl (sym ends ∙ e))

has_units : (us : Units) (es fs : Events) (b next : Between) (ws : Units) → HasRead us es b → NoEnds us → BeginsOnePiece ws → (us ≡ [] → BeginsSequence ws) → units_read b ws ≡ Ok (fs, next) → HasRead (us ++ ws) (es ++ fs) next
has_units us es fs b next [] h none begins first e = absurd begins
has_units us es fs b next (v ∷ vs) h none begins first e = has_read us es fs b next v vs h none begins first e

-- behind a piece
next_first : (us ws vs : Units) → BeginsOnePiece ws → us ++ ws ≡ [] → BeginsSequence vs
next_first us ws vs begins e = absurd (never_none us ws begins e)

module _ (end bits : ℕ) (kind : FaultKind) (place : ℕ) where
  -- behind units that were read
  abbrev Behind : Units → Units → Type 0
  Behind us vs = PlacedAt end bits (units_read at_start (us ++ vs)) kind place

  piece_placed : (us : Units) (es : Events) (b : Between) (at : ℕ) (p : List ℕ) (ps : List (List ℕ)) (r : Course) → HasRead us es b → NoEnds us → NoEnds (units_of p ++ units_in ps) → ArePieces (p ∷ ps) → (us ≡ [] → BeginsSequence (units_of p)) → end ≡ (at + length p) + length (joined ps)
      → piece_read b (at + length p) p ≡ r → continued r (λ next. read_at next (at + length p) (ends_from (at + length p) ps) ps) ≡ Err (kind, place)
      → ((fs : Events) (next : Between) → HasRead (us ++ units_of p) (es ++ fs) next → read_at next (at + length p) (ends_from (at + length p) ps) ps ≡ Err (kind, place) → Behind (us ++ units_of p) (units_in ps))
      → Behind us (units_of p ++ units_in ps)
  unfolding continued
  piece_placed us es b at p ps (Ok (fs, next)) h none own a first is read e ih =
      let mine = no_ends_parts (units_of p) (units_in ps) own in
      let units = piece_units_read b next (at + length p) p fs read in
      let has = has_units us es fs b next (units_of p) h none (a.0).begins first units in
      let later : read_at next (at + length p) (ends_from (at + length p) ps) ps ≡ Err (kind, place) = behind_err fs (read_at next (at + length p) (ends_from (at + length p) ps) ps) e in
      subst (λ (l : Units). PlacedAt end bits (units_read at_start l) kind place) (append_assoc us (units_of p) (units_in ps)) (ih fs next has later)
    where
      behind_err : (gs : Events) (c : Course) → behind gs c ≡ Err (kind, place) → c ≡ Err (kind, place)
      behind_err gs (Ok x) h = absurd cc
      behind_err gs (Err f) h = h
  piece_placed us es b at p ps (Err f) h none own a first is read e ih =
      let mine = no_ends_parts (units_of p) (units_in ps) own in
      let x = piece_fault b (at + length p) p kind place (read ∙ e) in
      let vs = units_in ps in
      let units = fault_units us es b (units_of p) vs (kind, x.left) h none mine.0 (a.0).begins (begins_later ps a.1) first x.read in
      let more : 8 * length (joined ps) ≡ unit_bits vs = ap (λ (l : List ℕ). 8 * length l) (whole_bytes ps a.1) ∙ sym (joined_bits vs) in
      record {
        told = bits - (x.left + unit_bits vs);
        is = ap (ended_read bits) (ap (units_read at_start) (sym (append_assoc us (units_of p) vs)) ∙ units);
        at = fault_there end (at + length p) bits x.left (unit_bits vs) (omega (arith, is, more)) ∙ ap (λ (n : ℕ). max n (8 * end - bits)) (sym x.at);
      }

  all_placed : (ps : List (List ℕ)) (us : Units) (es : Events) (b : Between) (at : ℕ) → HasRead us es b → NoEnds us → NoEnds (units_in ps) → ArePieces ps → (us ≡ [] → BeginsSequence (units_in ps)) → end ≡ at + length (joined ps)
      → read_at b at (ends_from at ps) ps ≡ Err (kind, place) → Behind us (units_in ps)
  unfolding units_in ends_from read_at
  all_placed [] us es b at h none own a first is e =
      let same : end ≡ at = omega (arith, is) in
      subst (λ (l : Units). PlacedAt end bits (units_read at_start l) kind place) (sym (append-nil us))
      (subst (λ (n : ℕ). PlacedAt n bits (units_read at_start us) kind place) (sym same) (end_placed us es b bits at kind place (read_first us es b h first) h e))
    where
      read_first : (us : Units) (es : Events) (b : Between) → HasRead us es b → (us ≡ [] → BeginsSequence []) → BeginsSequence us
      read_first [] es b h first = first refl
      read_first (u ∷ us) es b h first = h.0
  all_placed (p ∷ ps) us es b at h none own a first is e =
      let mine = no_ends_parts (units_of p) (units_in ps) own in
      let long = length-append p (joined ps) in
      let next : end ≡ (at + length p) + length (joined ps) = omega (arith, is, long) in
      piece_placed us es b at p ps (piece_read b (at + length p) p) h none own a (λ empty. front_sequence (units_of p) (units_in ps) (a.0).begins (first empty)) next refl e
      (λ fs last has later.
      all_placed ps (us ++ units_of p) (es ++ fs) last (at + length p) has (no_ends-append us (units_of p) none mine.0) mine.1 a.1 (λ empty. next_first us (units_of p) (units_in ps) (a.0).begins empty) next later)

-- ---- the fault of a span

some_at : (ps : List (List ℕ)) (b : Between) (m n at : ℕ) → 1 ≤ length ps → read_at b m (ends_from at ps) ps ≡ read_at b n (ends_from at ps) ps
unfolding read_at ends_from
some_at [] b m n at le = absurd (omega (arith, le))
some_at (p ∷ ps) b m n at le = refl

pub behind_by : (s : Span) (bytes : List ℕ) (o : Bool) (r : Course) → last_open (cut 0 bytes).1 ≡ o → o ≡ false → strands.read_of bytes ≡ r → fault_behind s bytes ≡ fault_by s bytes r
behind_by s bytes true r e closed is = absurd cc
behind_by s bytes false r e closed is = ap (λ (b : Bool). if b then (Truncated, 8 * end_of_span s - 24) else fault_by s bytes (strands.read_of bytes)) e ∙ ap (fault_by s bytes) is

-- of a span that has the pieces' place and length, behind bytes that were read: the fault that its pieces tell, not before the
-- place where all bytes would begin if they stood before its end
pub fault_placed : (s : Span) (bytes : List ℕ) (ps : List (List ℕ)) (es : Events) (b : Between) (n at : ℕ) (kind : FaultKind) (place : ℕ) → HasRead (units_of bytes) es b → CanGrow bytes → CanGoBehind bytes ps
    → last_open (units_of (bytes ++ joined ps)) ≡ false → end_of_span s ≡ at + length (joined ps) → read_at b n (ends_from at ps) ps ≡ Err (kind, place)
    → fault_behind s (bytes ++ joined ps) ≡ (kind, max place (8 * end_of_span s - 8 * length (bytes ++ joined ps)))
fault_placed s bytes ps es b n at kind place h can c closed is e =
    let all = bytes ++ joined ps in
    let end = end_of_span s in
    let bits = 8 * length all in
    let v = some_units ps c.pieces c.some in
    let whole : all ≡ bytes ++ joined (v.0 ∷ v.1) = ap (λ (l : List ℕ). bytes ++ l) (whole_bytes ps c.pieces ∙ ap joined v.2) in
    let g = grown bytes v.0 v.1 can (subst AreUnits v.2 c.are) (ap has_end (sym v.2) ∙ c.no_end) (λ empty. first_is v.0 v.1 (units_in ps) v.2 (c.first empty)) in
    let units : units_of all ≡ units_of bytes ++ units_in ps = ap units_of whole ∙ g.units ∙ ap (λ (l : Units). units_of bytes ++ l) (sym v.2) in
    let x = all_placed end bits kind place ps (units_of bytes) es b at h (none_ends (units_of bytes) (grow_none bytes can)) (none_ends (units_in ps) c.no_end) c.pieces (λ none. c.first (none_grown bytes can none)) is (some_at ps b at n at c.some ∙ e) in
    let begins : begins_sequence all ≡ true = ap begins_sequence whole ∙ g.begins in
    let no_end : has_end (units_of all) ≡ false = ap (λ (l : List ℕ). has_end (units_of l)) whole ∙ g.no_end in
    let read : strands.read_of all ≡ Err (kind, x.told) = read_alone all begins no_end closed ∙ ap (λ (l : Units). ended_read bits (units_read at_start l)) units ∙ x.is in
    behind_by s all (last_open (cut 0 all).1) (Err (kind, x.told)) refl closed read ∙ ap (λ (k : ℕ). (kind, k)) x.at
