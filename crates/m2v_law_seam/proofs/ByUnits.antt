-- A strand goes by what is read of its units, and grows piece by piece: what is read of a piece stands behind what was read before.
use Rattle.std.proofs.Common.{◌≡◌, inl, inr, ℕ, suc, ◌+◌, ◌*◌, ◌≤◌, Bool, true, false, cond, List, [], ◌∷◌, ◌++◌, length, Option, Ok, Err, refl, sym, ap, subst, ◌∙◌, arith}
use Rattle.std.specs.Prelude.{not, ◌&&◌, ◌||◌, if◌then◌else◌}
use Rattle.std.proofs.lemmas.Bool.{eqb-true}
use Rattle.std.proofs.Math.Bool.{and_assoc}
use Rattle.m2v_model.specs.declared.fault.FaultKind.{FaultKind}
use Rattle.m2v_model.specs.declared.fault.FaultKind.TheVariants.{FieldPair}
use Rattle.m2v_model.specs.declared.state.Sequence.{Sequence}
use Rattle.m2v_model.specs.Units.{Units, begins_code, cut, joined, unit_bits, AreUnits}
use Rattle.m2v_model.specs.States.{none_waits}
use Rattle.m2v_model.specs.Streams.{value_of}
use Rattle.m2v_model.specs.Pictures.{Pictures, Events, pictures_in}
use Rattle.m2v_model.specs.Pieces.{begins_piece, is_end}
use Rattle.m2v_model.specs.ByPieces.{Between, Course, at_start, behind, units_read}
use Rattle.m2v_model.proofs.CutLaws.{cut_units, joined-append}
use Rattle.m2v_model.proofs.ShiftLaws.{BeginsPiece, NoEnds}
use Rattle.m2v_model.proofs.SplitLaws.{behind_none, split, splits}
use Rattle.m2v_model.proofs.PieceLaws.{no_ends-append}
use Rattle.m2v_law_group.specs.Groups.{is_sequence}
use Rattle.m2v_law_group.specs.Chosen.{anchors_behind}
use Rattle.m2v_law_group.proofs.Texts.{code_bytes}
use Rattle.m2v_law_group.proofs.Lists.{or_parts}
use Rattle.m2v_law_seam.specs.Strands.{is_read, pictures_of, first_in, begins_sequence, has_end, last_open, keeps_rule, may_stand, all_stand, agrees, is_strand}
use Rattle.m2v_law_seam.specs.Strands as strands
use Rattle.m2v_law_seam.specs.Faults.{standing}
use Rattle.m2v_law_seam.specs.Spans.{units_of}
use Rattle.m2v_law_seam.specs.Reading.{ended_read, is_strand_read, ByUnits, BeginsSequence, CanGrow, HasRead, anchors_after}
use Rattle.m2v_law_seam.proofs.Strand.{StrandUnits, strand_units, own_units}
use Rattle.m2v_law_seam.proofs.Edited.{behind_units}
use Rattle.m2v_law_seam.proofs.Reading.{alone_by}

-- ---- by its units

-- what is read of bytes that begin with a sequence header, whether or not they read
pub read_alone : (bytes : List ℕ) → begins_sequence bytes ≡ true → has_end (cut 0 bytes).1 ≡ false → last_open (cut 0 bytes).1 ≡ false → strands.read_of bytes ≡ ended_read (8 * length bytes) (units_read at_start (cut 0 bytes).1)
read_alone bytes begins no_end closed = alone_by bytes (strand_units bytes begins no_end closed)

-- a strand by what is read of it with an end code
abbrev is_strand_of : Bool → Option Sequence → Course → Bool
is_strand_of opening first r = is_read r && (agrees first (first_in r) && (opening || keeps_rule (pictures_of r)))

ended_ok : (opening : Bool) (first : Option Sequence) (n : ℕ) (x : Events × Between) (w : Bool)
    → is_strand_of opening first (cond w (Ok x) (Err (FieldPair, n))) ≡ (w && (agrees first (x.1).state.first && (opening || keeps_rule (pictures_in x.0))))
ended_ok opening first n x true = refl
ended_ok opening first n x false = refl

ended_strand : (opening : Bool) (first : Option Sequence) (n : ℕ) (r : Course) → is_strand_of opening first (ended_read n r) ≡ is_strand_read opening first r
ended_strand opening first n (Ok x) = ended_ok opening first n x (none_waits (x.1).state.waiting)
ended_strand opening first n (Err f) = refl

reads_by : (b n l r s : Bool) → b ≡ true → n ≡ false → ((b && (not n && (not l && r))) && s) ≡ (not l && (r && s))
reads_by true false true r s e f = refl
reads_by true false false r s e f = refl
reads_by false n l r s e f = absurd cc
reads_by true true l r s e f = absurd cc

read_by : (opening : Bool) (first : Option Sequence) (bytes : List ℕ) (l : Bool) → begins_sequence bytes ≡ true → has_end (cut 0 bytes).1 ≡ false → last_open (cut 0 bytes).1 ≡ l
    → (not l && is_strand_of opening first (strands.read_of bytes)) ≡ (not l && is_strand_read opening first (units_read at_start (cut 0 bytes).1))
read_by opening first bytes true begins no_end closed = refl
read_by opening first bytes false begins no_end closed =
    ap (is_strand_of opening first) (read_alone bytes begins no_end closed) ∙ ended_strand opening first (8 * length bytes) (units_read at_start (cut 0 bytes).1)

pub strand_is : (opening : Bool) (first : Option Sequence) (bytes : List ℕ) → begins_sequence bytes ≡ true → has_end (cut 0 bytes).1 ≡ false
    → is_strand opening first bytes ≡ (not (last_open (cut 0 bytes).1) && is_strand_read opening first (units_read at_start (cut 0 bytes).1))
strand_is opening first bytes begins no_end =
    let r = strands.read_of bytes in
    reads_by (begins_sequence bytes) (has_end (cut 0 bytes).1) (last_open (cut 0 bytes).1) (is_read r) (agrees first (first_in r) && (opening || keeps_rule (pictures_of r))) begins no_end
    ∙ read_by opening first bytes (last_open (cut 0 bytes).1) begins no_end refl

pub by_units : (bytes : List ℕ) → begins_sequence bytes ≡ true → has_end (cut 0 bytes).1 ≡ false → ByUnits bytes
by_units bytes begins no_end = record { read = read_alone bytes begins no_end; strand = λ opening first. strand_is opening first bytes begins no_end }

-- ---- units behind others

pub end_append : (us vs : Units) → has_end us ≡ false → has_end vs ≡ false → has_end (us ++ vs) ≡ false
unfolding has_end
end_append [] vs a b = b
end_append (u ∷ us) vs a b = let p = or_parts (is_end (value_of u)) (has_end us) a in rw (p.0) (end_append us vs p.1 b)

pub end_before : (us vs : Units) → has_end (us ++ vs) ≡ false → (has_end us ≡ false) × (has_end vs ≡ false)
unfolding has_end
end_before [] vs h = (refl, h)
end_before (u ∷ us) vs h = let p = or_parts (is_end (value_of u)) (has_end (us ++ vs)) h in let i = end_before us vs p.1 in (rw (p.0) i.0, i.1)

pub open_behind : (us : Units) (v : List ℕ) (vs : Units) → last_open (us ++ v ∷ vs) ≡ last_open (v ∷ vs)
unfolding last_open
open_behind [] v vs = refl
open_behind (u ∷ []) v vs = refl
open_behind (u ∷ w ∷ us) v vs = open_behind (w ∷ us) v vs

-- the bytes of units that begin with a sequence header
header_bytes : (u rest : List ℕ) → 4 ≤ length u → begins_code u ≡ true → is_sequence u ≡ true → begins_sequence (u ++ rest) ≡ true
header_bytes u rest le code is =
    let b = code_bytes u code in
    let value : b.value ≡ 0xB3 = eqb-true b.value 0xB3 (subst (λ (l : List ℕ). is_sequence l ≡ true) b.is is) in
    let same : u ++ rest ≡ 0 ∷ 0 ∷ 1 ∷ 0xB3 ∷ (b.rest ++ rest) = ap (λ (l : List ℕ). l ++ rest) b.is ∙ ap (λ (n : ℕ). 0 ∷ 0 ∷ 1 ∷ n ∷ (b.rest ++ rest)) value in
    ap begins_sequence same

begins_on : (bytes rest : List ℕ) → begins_sequence bytes ≡ true → begins_sequence (bytes ++ rest) ≡ true
begins_on (a ∷ b ∷ c ∷ d ∷ w) rest h = h
begins_on _ rest h = absurd cc

-- bytes that can grow, with units behind them
pub record Grown (bytes : List ℕ) (v : List ℕ) (vs : Units) : Type 0 where
  pub units : units_of (bytes ++ joined (v ∷ vs)) ≡ units_of bytes ++ v ∷ vs
  pub begins : begins_sequence (bytes ++ joined (v ∷ vs)) ≡ true
  pub no_end : has_end (units_of (bytes ++ joined (v ∷ vs))) ≡ false
  pub last : last_open (units_of (bytes ++ joined (v ∷ vs))) ≡ last_open (v ∷ vs)

grown_none : (v : List ℕ) (vs : Units) → AreUnits (v ∷ vs) → has_end (v ∷ vs) ≡ false → is_sequence v ≡ true → Grown [] v vs
unfolding cut
grown_none v vs are none is =
    let units : units_of (joined (v ∷ vs)) ≡ v ∷ vs = cut_units (v ∷ vs) are in
    record {
      units = units;
      begins = header_bytes v (joined vs) are.0 are.1 is;
      no_end = ap has_end units ∙ none;
      last = ap last_open units;
    }

grown_some : (bytes : List ℕ) (x : StrandUnits bytes) (v : List ℕ) (vs : Units) → begins_sequence bytes ≡ true → has_end (cut 0 bytes).1 ≡ false → AreUnits (v ∷ vs) → has_end (v ∷ vs) ≡ false → Grown bytes v vs
grown_some bytes x v vs begins no_end are none =
    let own = x.h ∷ x.pm in
    let mine = own_units bytes x in
    let all : AreUnits (own ++ v ∷ vs) = behind_units own v vs x.ended are in
    let whole : bytes ++ joined (v ∷ vs) ≡ joined (own ++ v ∷ vs) = ap (λ (l : List ℕ). l ++ joined (v ∷ vs)) x.whole ∙ sym (joined-append own (v ∷ vs)) in
    let units : units_of (bytes ++ joined (v ∷ vs)) ≡ units_of bytes ++ v ∷ vs = ap (λ (l : List ℕ). (cut 0 l).1) whole ∙ cut_units (own ++ v ∷ vs) all ∙ ap (λ (l : Units). l ++ v ∷ vs) (sym mine) in
    record {
      units = units;
      begins = begins_on bytes (joined (v ∷ vs)) begins;
      no_end = ap has_end units ∙ end_append (units_of bytes) (v ∷ vs) no_end none;
      last = ap last_open units ∙ open_behind (units_of bytes) v vs;
    }

pub grown : (bytes : List ℕ) (v : List ℕ) (vs : Units) → CanGrow bytes → AreUnits (v ∷ vs) → has_end (v ∷ vs) ≡ false → (bytes ≡ [] → is_sequence v ≡ true) → Grown bytes v vs
grown bytes v vs (inl e) are none first = subst (λ (l : List ℕ). Grown l v vs) (sym e) (grown_none v vs are none (first e))
grown bytes v vs (inr h) are none first = grown_some bytes (strand_units bytes h.0 h.1 h.2) v vs h.0 h.1 are none

-- ---- what is read behind what was read

-- units behind those that were read
pub read_on : (us : Units) (es : Events) (b : Between) (vs : Units) → HasRead us es b → NoEnds us → BeginsPiece vs → units_read at_start (us ++ vs) ≡ behind es (units_read b vs)
read_on [] es b vs h none begins = sym (ap (λ (l : Events). behind l (units_read b vs)) h.0 ∙ behind_none (units_read b vs) ∙ ap (λ (x : Between). units_read x vs) h.1)
read_on (u ∷ us) es b vs h none begins = (splits at_start (u ∷ us) vs begins none h.0).is ∙ ap (split vs) h.1

-- a piece that was read
pub has_read : (us : Units) (es fs : Events) (b next : Between) (v : List ℕ) (vs : Units) → HasRead us es b → NoEnds us → begins_piece (value_of v) ≡ true → (us ≡ [] → is_sequence v ≡ true) → units_read b (v ∷ vs) ≡ Ok (fs, next)
    → HasRead (us ++ v ∷ vs) (es ++ fs) next
has_read [] es fs b next v vs h none begins first e = (first refl, read_on [] es b (v ∷ vs) h none begins ∙ ap (behind es) e)
has_read (u ∷ us) es fs b next v vs h none begins first e = (h.0, read_on (u ∷ us) es b (v ∷ vs) h none begins ∙ ap (behind es) e)

-- a fault in a piece, whatever stands behind it
first_known : (us : Units) (es : Events) (b : Between) (v : List ℕ) (vs : Units) → HasRead us es b → (us ≡ [] → is_sequence v ≡ true) → BeginsSequence (us ++ v ∷ vs)
first_known [] es b v vs h first = first refl
first_known (u ∷ us) es b v vs h first = h.0

split_at : (us vs : Units) → BeginsSequence us → NoEnds us → BeginsPiece vs → units_read at_start (us ++ vs) ≡ split vs (units_read at_start us)
split_at [] vs is none begins = absurd is
split_at (u ∷ us) vs is none begins = (splits at_start (u ∷ us) vs begins none is).is

pub fault_on : (us : Units) (es : Events) (b : Between) (v : List ℕ) (vs ws : Units) (f : FaultKind × ℕ) → HasRead us es b → NoEnds us → NoEnds (v ∷ vs) → begins_piece (value_of v) ≡ true → BeginsPiece ws → (us ≡ [] → is_sequence v ≡ true)
    → units_read b (v ∷ vs) ≡ Err f → units_read at_start ((us ++ v ∷ vs) ++ ws) ≡ Err (f.0, f.1 + unit_bits ws)
fault_on us es b v vs ws f h none own begins later first e =
    split_at (us ++ v ∷ vs) ws (first_known us es b v vs h first) (no_ends-append us (v ∷ vs) none own) later
    ∙ ap (split ws) (read_on us es b (v ∷ vs) h none begins ∙ ap (behind es) e)

-- ---- the rule

pub anchors_append : (n : ℕ) (ps qs : Pictures) → anchors_after n (ps ++ qs) ≡ anchors_after (anchors_after n ps) qs
anchors_append n [] qs = refl
anchors_append n (p ∷ ps) qs = anchors_append (anchors_behind n p) ps qs

pub stand_append : (n : ℕ) (ps qs : Pictures) → all_stand n (ps ++ qs) ≡ (all_stand n ps && all_stand (anchors_after n ps) qs)
unfolding all_stand
stand_append n [] qs = refl
stand_append n (p ∷ ps) qs = ap (λ (b : Bool). may_stand n p && b) (stand_append (anchors_behind n p) ps qs) ∙ sym (and_assoc (may_stand n p) (all_stand (anchors_behind n p) ps) (all_stand (anchors_after (anchors_behind n p) ps) qs))

-- how many stand, where all of the first ones do, and where not
pub standing_all : (n : ℕ) (ps qs : Pictures) → all_stand n ps ≡ true → standing n (ps ++ qs) ≡ length ps + standing (anchors_after n ps) qs
unfolding all_stand standing
standing_all n [] qs h = omega arith
standing_all n (p ∷ ps) qs h = by_first (may_stand n p) h (λ g. standing_all (anchors_behind n p) ps qs g)
  where
    by_first : (b : Bool) → (b && all_stand (anchors_behind n p) ps) ≡ true → (all_stand (anchors_behind n p) ps ≡ true → standing (anchors_behind n p) (ps ++ qs) ≡ length ps + standing (anchors_after (anchors_behind n p) ps) qs)
        → (if b then suc (standing (anchors_behind n p) (ps ++ qs)) else 0) ≡ suc (length ps) + standing (anchors_after (anchors_behind n p) ps) qs
    by_first true g ih = omega (arith, ih g)
    by_first false g ih = absurd cc

pub standing_some : (n : ℕ) (ps qs : Pictures) → all_stand n ps ≡ false → standing n (ps ++ qs) ≡ standing n ps
unfolding all_stand standing
standing_some n [] qs h = absurd cc
standing_some n (p ∷ ps) qs h = by_first (may_stand n p) h (λ g. standing_some (anchors_behind n p) ps qs g)
  where
    by_first : (b : Bool) → (b && all_stand (anchors_behind n p) ps) ≡ false → (all_stand (anchors_behind n p) ps ≡ false → standing (anchors_behind n p) (ps ++ qs) ≡ standing (anchors_behind n p) ps)
        → (if b then suc (standing (anchors_behind n p) (ps ++ qs)) else 0) ≡ (if b then suc (standing (anchors_behind n p) ps) else 0)
    by_first true g ih = ap suc (ih g)
    by_first false g ih = refl
