-- Units as bytes, and that no start code stands inside one.
use Rattle.std.proofs.Common.{◌≡◌, ℕ, zero, suc, ◌+◌, ◌*◌, ◌%◌, ◌/◌, ◌<◌, ◌≤◌, Bool, true, false, All, List, [], ◌∷◌, ◌++◌, length, replicate, map, refl, sym, ap, subst, ◌∙◌, arith, append_assoc}
use Rattle.std.specs.Prelude.{nat_eq, ◌&&◌}
use Rattle.std.specs.List.{flat_map, range_with_len}
use Rattle.std.proofs.lemmas.Bool.{false_from_ne_true, and_parts, eqb-true}
use Rattle.std.proofs.lemmas.List.{length-append, length-replicate, append-nil}
use Rattle.std.proofs.lemmas.List.Elements.{All-head, All-tail, All-nil, All-cons, All-append}
use Rattle.std.proofs.Math.Nat.{mod-eq_of_lt}
use Rattle.std.proofs.Math.Bool.{and-false}
use Rattle.m2v_bits.specs.Bits.{bits_of, number, bits, packed, start_code, to_edge, unit}
use Rattle.m2v_bits.proofs.Bits.{number-bits_of, bits_of-number}
use Rattle.m2v_model.specs.Texts.{Calm, ended, unit_bytes, IsCalm, IsTidy, PacksEach, Packs}
use Rattle.m2v_bits.proofs.Units.{start_length, unit_edge, packed-append}
use Rattle.m2v_model.proofs.Edges.{packed_none}
use Rattle.m2v_model.specs.Units.{begins_code, joined, Clear, AreUnits, Cuts, Units}
use Rattle.m2v_model.proofs.Calm.{calm_zeros, calm_rest}

-- ---- one unit

start_bytes : (value : ℕ) (t : List Bool) → packed (start_code value ++ t) ≡ 0 ∷ 0 ∷ 1 ∷ number (bits_of 8 value) ∷ packed t
unfolding bits_of packed number
start_bytes value t = refl

begun_length : (value : ℕ) (t : List Bool) → length (start_code value ++ t) ≡ 32 + length t
begun_length value t = omega (arith, length-append (start_code value) t, start_length value)

unit_text : (value : ℕ) (t : List Bool) → unit value t ≡ start_code value ++ ended t
unfolding ended
unit_text value t =
    append_assoc (start_code value) t (replicate (to_edge (length (start_code value ++ t))) false)
    ∙ ap (λ (n : ℕ). start_code value ++ (t ++ replicate (to_edge n) false)) (begun_length value t)

unit_is : (value : ℕ) (t : List Bool) → value < 256 → packed (unit value t) ≡ unit_bytes value t
unit_is value t below =
    ap packed (unit_text value t) ∙ start_bytes value (ended t)
    ∙ ap (λ (n : ℕ). 0 ∷ 0 ∷ 1 ∷ n ∷ packed (ended t)) (number-bits_of 8 value ∙ mod-eq_of_lt below)

ended_length : (t : List Bool) → length (ended t) % 8 ≡ 0
unfolding ended
ended_length t = omega (arith, length-append t (replicate (to_edge (32 + length t)) false), length-replicate (to_edge (32 + length t)) false)

eight_bits : (a b c d e f g h : Bool) (rest more : List Bool) → bits (packed rest) ≡ more → bits (packed (a ∷ b ∷ c ∷ d ∷ e ∷ f ∷ g ∷ h ∷ rest)) ≡ a ∷ b ∷ c ∷ d ∷ e ∷ f ∷ g ∷ h ∷ more
unfolding packed
eight_bits a b c d e f g h rest more is =
    ap (λ (t : List Bool). t ++ bits (packed rest)) (bits_of-number (a ∷ b ∷ c ∷ d ∷ e ∷ f ∷ g ∷ h ∷ []))
    ∙ ap (λ (t : List Bool). a ∷ b ∷ c ∷ d ∷ e ∷ f ∷ g ∷ h ∷ t) is

no_bits : bits (packed []) ≡ []
unfolding packed
no_bits = refl

bits_packed : (n : ℕ) (t : List Bool) → length t ≡ 8 * n → bits (packed t) ≡ t
bits_packed zero [] len = no_bits
bits_packed zero (a ∷ t) len = absurd (omega arith)
bits_packed (suc n) (a ∷ b ∷ c ∷ d ∷ e ∷ f ∷ g ∷ h ∷ rest) len = eight_bits a b c d e f g h rest rest (bits_packed n rest (omega arith))
bits_packed (suc n) _ len = absurd (omega arith)

-- the bits behind a unit's start code
pub ended_bits : (t : List Bool) → bits (packed (ended t)) ≡ ended t
ended_bits t = bits_packed (length (ended t) / 8) (ended t) (omega (arith, ended_length t))

-- ---- no start code inside

code_zeros : (k m : ℕ) (bs : List ℕ) → Calm k (bits (0 ∷ 0 ∷ 1 ∷ bs)) m → 23 ≤ k
unfolding bits_of
code_zeros k m bs h = calm_zeros 23 k m (true ∷ bits bs) h

code_found : (k m b c d : ℕ) (bs : List ℕ) → b ≡ 0 → c ≡ 0 → d ≡ 1 → k ≤ 22 → Calm k (bits (b ∷ c ∷ d ∷ bs)) m → ⊥
code_found k m b c d bs eb ec ed le h =
    let g : Calm k (bits (0 ∷ 0 ∷ 1 ∷ bs)) m = subst (λ (x : ℕ). Calm k (bits (0 ∷ 0 ∷ x ∷ bs)) m) ed (subst (λ (x : ℕ). Calm k (bits (0 ∷ x ∷ d ∷ bs)) m) ec (subst (λ (x : ℕ). Calm k (bits (x ∷ c ∷ d ∷ bs)) m) eb h)) in
    omega (arith, code_zeros k m bs g)

no_code : (b c d k m : ℕ) (bs : List ℕ) → k ≤ 22 → Calm k (bits (b ∷ c ∷ d ∷ bs)) m → (nat_eq b 0 && (nat_eq c 0 && nat_eq d 1)) ≡ false
no_code b c d k m bs le h = false_from_ne_true _ (λ on.
    let p = and_parts (nat_eq b 0) (nat_eq c 0 && nat_eq d 1) on in
    let q = and_parts (nat_eq c 0) (nat_eq d 1) p.1 in
    code_found k m b c d bs (eqb-true b 0 p.0) (eqb-true c 0 q.0) (eqb-true d 1 q.1) le h)

-- at the head of bytes, behind which a unit or nothing stands
here_next : (b k m : ℕ) (bs w : List ℕ) → k ≤ 22 → Calm k (bits (b ∷ bs)) m → begins_code (b ∷ (bs ++ (0 ∷ 0 ∷ w))) ≡ false
here_next b k m [] [] le h = refl
here_next b k m [] (x ∷ w) le h = and-false (nat_eq b 0)
here_next b k m (c ∷ []) w le h = rw (and-false (nat_eq c 0)) (and-false (nat_eq b 0))
here_next b k m (c ∷ d ∷ []) w le h = no_code b c d k m [] le h
here_next b k m (c ∷ d ∷ e ∷ bs) w le h = no_code b c d k m (e ∷ bs) le h

here_end : (b k m : ℕ) (bs : List ℕ) → k ≤ 22 → Calm k (bits (b ∷ bs)) m → begins_code (b ∷ (bs ++ [])) ≡ false
here_end b k m [] le h = refl
here_end b k m (c ∷ []) le h = refl
here_end b k m (c ∷ d ∷ []) le h = refl
here_end b k m (c ∷ d ∷ e ∷ bs) le h = no_code b c d k m (e ∷ bs) le h

-- either nothing, or the first bytes of a start code
abbrev Follows : List ℕ → Type 0
Follows [] = Unit {0}
Follows (a ∷ []) = ⊥
Follows (a ∷ b ∷ w) = (a ≡ 0) × (b ≡ 0)

here_clear : (b k m : ℕ) (bs rest : List ℕ) → k ≤ 22 → Calm k (bits (b ∷ bs)) m → Follows rest → begins_code (b ∷ (bs ++ rest)) ≡ false
here_clear b k m bs [] le h f = here_end b k m bs le h
here_clear b k m bs (x ∷ []) le h f = absurd f
here_clear b k m bs (x ∷ y ∷ w) le h f =
    subst (λ (z : ℕ). begins_code (b ∷ (bs ++ (z ∷ y ∷ w))) ≡ false) (sym f.0)
    (subst (λ (z : ℕ). begins_code (b ∷ (bs ++ (0 ∷ z ∷ w))) ≡ false) (sym f.1) (here_next b k m bs w le h))

bytes_clear : (bs rest : List ℕ) (k m : ℕ) → k ≤ 22 → Calm k (bits bs) m → Follows rest → Clear 0 bs rest
bytes_clear [] rest k m le h f i from lt = absurd (omega arith)
bytes_clear (b ∷ bs) rest k m le h f zero from lt = here_clear b k m bs rest le h f
bytes_clear (b ∷ bs) rest k m le h f (suc i) from lt =
    let r = calm_rest (bits_of 8 b) (bits bs) k m le h in
    bytes_clear bs rest r.0 m r.1 r.2 f i (omega arith) (omega arith)

shifted : (a b c d : ℕ) (bs rest : List ℕ) → Clear 0 bs rest → Clear 4 (a ∷ b ∷ c ∷ d ∷ bs) rest
shifted a b c d bs rest h zero le lt = absurd (omega arith)
shifted a b c d bs rest h (suc zero) le lt = absurd (omega arith)
shifted a b c d bs rest h (suc (suc zero)) le lt = absurd (omega arith)
shifted a b c d bs rest h (suc (suc (suc zero))) le lt = absurd (omega arith)
shifted a b c d bs rest h (suc (suc (suc (suc i)))) le lt = h i (omega arith) (omega arith)

tidy_clear : (value : ℕ) (t : List Bool) (rest : List ℕ) → IsCalm t → Follows rest → Clear 4 (unit_bytes value t) rest
tidy_clear value t rest h f =
    shifted 0 0 1 value (packed (ended t)) rest (bytes_clear (packed (ended t)) rest 22 0 (omega arith) (subst (λ (x : List Bool). Calm 22 x 0) (sym (ended_bits t)) h.calm) f)

follows : (us : Units) → All IsTidy us → Follows (joined us)
follows [] h = tt
follows (u ∷ us) h =
    let tidy = All-head IsTidy u us h in
    subst (λ (x : List ℕ). Follows (x ++ joined us)) (sym tidy.is) (refl, refl)

begins_unit : (value : ℕ) (bs : List ℕ) → begins_code (0 ∷ 0 ∷ 1 ∷ value ∷ bs) ≡ true
begins_unit value bs = refl

pub are_units : (us : Units) → All IsTidy us → AreUnits us
are_units [] h = tt
are_units (u ∷ us) h =
    let tidy = All-head IsTidy u us h in
    let later = All-tail IsTidy u us h in (
      subst (λ (x : List ℕ). 4 ≤ length x) (sym tidy.is) (omega arith),
      subst (λ (x : List ℕ). begins_code x ≡ true) (sym tidy.is) (begins_unit tidy.value (packed (ended tidy.text))),
      subst (λ (x : List ℕ). Clear 4 x (joined us)) (sym tidy.is) (tidy_clear tidy.value tidy.text (joined us) tidy.calm (follows us later)),
      are_units us later,
    )

-- ---- texts as units

pub joined_append : (us vs : Units) → joined (us ++ vs) ≡ joined us ++ joined vs
joined_append [] vs = refl
joined_append (u ∷ us) vs = ap (λ (x : List ℕ). u ++ x) (joined_append us vs) ∙ sym (append_assoc u (joined us) (joined vs))

pub packs_none : Packs [] []
packs_none = record { edge = refl; bytes = packed_none; each = All-nil IsTidy }

pub packs_unit : (value : ℕ) (t : List Bool) → value < 256 → IsCalm t → Packs (unit value t) (unit_bytes value t ∷ [])
packs_unit value t below h = record {
  edge = unit_edge value t;
  bytes = unit_is value t below ∙ sym (append-nil (unit_bytes value t));
  each = All-cons IsTidy (unit_bytes value t) [] (record { value = value; text = t; is = refl; calm = h }) (All-nil IsTidy);
}

pub packs_append : {P : List ℕ → Type 0} (a b : List Bool) (us vs : Units) → PacksEach P a us → PacksEach P b vs → PacksEach P (a ++ b) (us ++ vs)
packs_append {P} a b us vs p q = record {
  edge = omega (arith, length-append a b, p.edge, q.edge);
  bytes = packed-append a b p.edge ∙ rw (p.bytes, q.bytes) (sym (joined_append us vs));
  each = All-append P us vs p.each q.each;
}

-- texts one after another, each a unit
pub packs_map : (text : ℕ → List Bool) (bytes : ℕ → List ℕ) (from n : ℕ) → ((k : ℕ) → k < from + n → Packs (text k) (bytes k ∷ [])) → Packs (flat_map text (range_with_len from n)) (map bytes (range_with_len from n))
packs_map text bytes from zero each = packs_none
packs_map text bytes from (suc n) each =
    packs_append (text from) (flat_map text (range_with_len (from + 1) n)) (bytes from ∷ []) (map bytes (range_with_len (from + 1) n)) (each from (omega arith))
    (packs_map text bytes (from + 1) n (λ k lt. each k (omega arith)))

-- a text that packs units is cut into them
pub cuts_of : (text : List Bool) (us : Units) → Packs text us → Cuts (packed text) [] us
cuts_of text us p = record { whole = p.bytes; front_clear = λ i le lt. absurd (omega arith); are_units = are_units us p.each }
