-- No failure of the buffer is told of the flat profile's stream: each picture takes no more than comes until the next one, and the
-- buffer is full at first.
use Rattle.std.proofs.Common.{◌≡◌, ℕ, zero, suc, ◌+◌, ◌-◌, ◌*◌, ◌≤◌, min, true, false, List, [], ◌∷◌, ◌++◌, length, map, sum, Option, Some, None, refl, sym, ap, subst, ◌∙◌, arith}
use Rattle.std.specs.List.{AllByRecursion}
use Rattle.m2v_set.specs.Numbers.{field_units, field_time}
use Rattle.m2v_vbv.specs.Buffer.{Inflow, Picture, size_of, left}
use Rattle.m2v_vbv.specs.Deliveries.{Delivers, HasInTime}
use Rattle.m2v_vbv.proofs.Fine.{left_cons}
use Rattle.m2v_flat.specs.declared.settings.FlatSettings.{FlatSettings}
use Rattle.m2v_flat.specs.Tree.{sequence_of}
use Rattle.m2v_flat.specs.Numbered.{counted, counted_from}
use Rattle.m2v_model.specs.Streams.{Sofar}
use Rattle.m2v_model.specs.Pieces.{pieces}
use Rattle.m2v_model.specs.Lawful.{Numbered}
use Rattle.m2v_model.specs.Buffering.{bits_of_piece}
use Rattle.m2v_audit.specs.declared.account.Due.{Due}
use Rattle.m2v_audit.specs.declared.report.Rate.{Rate}
use Rattle.m2v_audit.specs.Account.{pictures}
use Rattle.m2v_audit.specs.Times.{Times, opened}
use Rattle.m2v_law_audit.specs.Sequences.{first_byte}
use Rattle.m2v_law_audit.specs.Accounts.{Beginning, beginning_by, beginning_in, dues_from, dues_by, dues_in, numbered_in, failures_by, failures_of_stream}
use Rattle.m2v_law_audit.proofs.AccountFailures.{begins_so, fails_where_none_delivers}
use Rattle.m2v_law_audit.proofs.FlatPieces.{IsSmall}

-- ---- a buffer that is full at first, at variable rate

-- a picture takes no more than comes until the next one, nor than the buffer takes
pub record Bears (k size : ℕ) (p : Picture) : Type 0 where
  pub comes : 1800 * p.bits ≤ k * p.units
  pub fits : p.bits ≤ size

-- it is full when each picture is due, or has all that is left
abbrev filled : ℕ → List Picture → List ℕ
filled size [] = []
filled size (p ∷ ps) = min (1800 * size) (1800 * left (p ∷ ps) 0) ∷ filled size ps

abbrev inflow : ℕ → ℕ → ℕ → Inflow
inflow k size step = record { k = k; buffer_bits = size; step = step; varies = true }

delivered : (k size step most : ℕ) (ps : List Picture) → min (1800 * size) (1800 * left ps 0) ≤ most → AllByRecursion (Bears k size) ps
    → (let os : List ℕ = filled size ps in Delivers (inflow k size step) most ps 0 os × HasInTime ps os)
delivered k size step most [] le each = (tt, tt)
delivered k size step most (p ∷ ps) le each =
    let is = left_cons p ps 0 in
    let here : Bears k size p = each.0 in
    let there = min (1800 * size) (1800 * left (p ∷ ps) 0) in
    let later : min (1800 * size) (1800 * left ps 0) ≤ there - 1800 * p.bits + k * p.units = omega (arith, is, here.comes, here.fits) in
    let more = delivered k size step (there - 1800 * p.bits + k * p.units) ps later each.1 in
    ((le, omega arith, omega arith, more.0), (omega (arith, is, here.fits), more.1))

-- ---- the pictures

-- at most 30 frames a second
field_least : (code : ℕ) → 1 ≤ code → code ≤ 5 → 12000 ≤ field_time code
unfolding field_time field_units
field_least zero some few = absurd (omega (arith, some))
field_least (suc zero) some few = omega arith
field_least (suc (suc zero)) some few = omega arith
field_least (suc (suc (suc zero))) some few = omega arith
field_least (suc (suc (suc (suc zero)))) some few = omega arith
field_least (suc (suc (suc (suc (suc zero))))) some few = omega arith
field_least (suc (suc (suc (suc (suc (suc code)))))) some few = absurd (omega (arith, few))

-- the buffer of main level
abbrev buffer_bits : ℕ
buffer_bits = 1835008

borne_by : (bits code_bits units : ℕ) → bits ≤ 262048 → 12000 ≤ units →
    let p : Picture = record { bits = bits; code_bits = code_bits; units = 2 * units } in Bears 37500 buffer_bits p
borne_by bits code_bits units few long = record { comes = omega (arith, few, long); fits = omega (arith, few) }

module _ (s : FlatSettings) (long : 12000 ≤ field_time s.rate_code) where
  abbrev times_of : Times
  times_of = opened false s.rate_code

  -- of frames that have so many pieces, and behind these the end code
  all_borne : (frames qs : List (List ℕ)) (e : List ℕ) (number at : ℕ) → length qs ≡ length frames → AllByRecursion IsSmall qs
      → bits_of_piece e ≤ 32
      → AllByRecursion (Bears 37500 buffer_bits) (pictures (dues_from times_of at (qs ++ e ∷ []) (counted_from s number frames)))
  unfolding counted_from dues_from
  all_borne [] qs e number at many small end = tt
  all_borne (raw ∷ frames) [] e number at many small end = absurd cc
  all_borne (raw ∷ []) (q ∷ []) e number at many small end =
      let bits = sum (map bits_of_piece (q ∷ e ∷ [])) in
      let few : bits ≤ 262048 = omega (arith, small.0, end) in
      (borne_by bits _ (field_time s.rate_code) few long, tt)
  all_borne (raw ∷ []) (q ∷ r ∷ qs) e number at many small end = absurd cc
  all_borne (raw ∷ next ∷ frames) (q ∷ qs) e number at many small end = (
    borne_by (bits_of_piece q) _ (field_time s.rate_code) (omega (arith, small.0)) long,
    all_borne (next ∷ frames) qs e (number + 1) (at + length q) (omega (arith, many)) small.1 end,
  )

-- ---- the failures

-- the account begins full, at variable rate
record BeginsFull (x : Beginning) : Type 0 where
  varies : x.rate.constant ≡ false
  inflow_is : x.buffer.inflow ≡ inflow 37500 buffer_bits 1

begins_full : (s : FlatSettings) (raw : List ℕ) (ns : List Numbered) (at : ℕ) (q : List ℕ) (qs : List (List ℕ)) (x : Beginning)
    → beginning_by (Some (sequence_of s)) at (q ∷ qs) (counted s 0 raw ∷ ns) ≡ Some x → BeginsFull x
begins_full s raw ns at q qs x e =
    let b = begins_so (sequence_of s) at q qs (counted s 0 raw) ns x e in
    record {
      varies = ap (λ (r : Rate). r.constant) b.rate;
      inflow_is = ap (λ y. y.inflow) b.buffer;
    }

-- a stream of frames with this first sequence header, in pieces of so few bits, behind which the end code stands
pub record IsOfFrames (s : FlatSettings) (raw : List ℕ) (frames : List (List ℕ)) (text : List ℕ) (tree : Sofar) : Type 0 where
  pub header : tree.state.first ≡ Some (sequence_of s)
  pub numbers : numbered_in tree ≡ counted_from s 0 (raw ∷ frames)
  pub first : List ℕ
  pub others : List (List ℕ)
  pub last : List ℕ
  pub are : pieces text ≡ first ∷ (others ++ last ∷ [])
  pub many : length (first ∷ others) ≡ length (raw ∷ frames)
  pub small : AllByRecursion IsSmall (first ∷ others)
  pub end : bits_of_piece last ≤ 32

module _ (s : FlatSettings) (raw : List ℕ) (frames : List (List ℕ)) (text : List ℕ) (tree : Sofar) (h : IsOfFrames s raw frames text tree) where
  dues_borne : (start : ℕ) → 12000 ≤ field_time s.rate_code → AllByRecursion (Bears 37500 buffer_bits) (pictures (dues_in start text tree))
  dues_borne start long =
      let at = first_byte start text in
      let own : List Due = dues_by (Some (sequence_of s)) at (h.first ∷ (h.others ++ h.last ∷ [])) (counted_from s 0 (raw ∷ frames)) in
      let is : dues_in start text tree ≡ own = λ i. dues_by (h.header i) at (h.are i) (h.numbers i) in
      subst (λ (ds : List Due). AllByRecursion (Bears 37500 buffer_bits) (pictures ds)) (sym is)
      (all_borne s long (raw ∷ frames) (h.first ∷ h.others) h.last 0 at h.many h.small h.end)

  fails_by : (number start : ℕ) (o : Option Beginning) → 12000 ≤ field_time s.rate_code → beginning_in start text tree ≡ o
      → failures_of_stream number start text tree ≡ []
  unfolding counted_from
  fails_by number start None long none = ap (λ (o : Option Beginning). failures_by number o (dues_in start text tree)) none
  fails_by number start (Some x) long begins =
      let at = first_byte start text in
      let later = counted_from s (0 + 1) frames in
      let own : beginning_by (Some (sequence_of s)) at (h.first ∷ (h.others ++ h.last ∷ [])) (counted s 0 raw ∷ later) ≡ Some x =
      (λ i. beginning_by (sym h.header i) at (sym h.are i) (sym h.numbers i)) ∙ begins in
      let full = begins_full s raw later at h.first (h.others ++ h.last ∷ []) x own in
      let ps = pictures (dues_in start text tree) in
      let some = delivered 37500 buffer_bits 1 (1800 * buffer_bits) ps (omega arith) (dues_borne start long) in
      (fails_where_none_delivers text tree number start x begins full.varies).1
      (subst (λ (c : Inflow). (os : List ℕ) × (Delivers c (size_of c) ps 0 os × HasInTime ps os)) (sym full.inflow_is)
      (filled buffer_bits ps, some))

  pub none_fails : (number start : ℕ) → 1 ≤ s.rate_code → s.rate_code ≤ 5 → failures_of_stream number start text tree ≡ []
  none_fails number start least most =
      fails_by number start (beginning_in start text tree) (field_least s.rate_code least most) refl
