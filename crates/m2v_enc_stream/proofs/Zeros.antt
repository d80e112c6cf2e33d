-- Units with zero bytes behind them, as they stand behind the last slice of a picture: texts are cut into them too.
use Rattle.std.proofs.Common.{◌≡◌, ℕ, zero, suc, ◌+◌, ◌-◌, ◌*◌, ◌<◌, ◌≤◌, Bool, true, false, inl, inr, List, [], ◌∷◌, ◌++◌, length, drop, replicate, refl, sym, ap, subst, ◌∙◌, arith, append_assoc}
use Rattle.std.specs.Prelude.{nat_eq, All}
use Rattle.std.proofs.lemmas.Bool.{cases_lt}
use Rattle.std.proofs.lemmas.List.{length-append, append-nil, replicate-append-replicate, length-replicate}
use Rattle.std.proofs.lemmas.List.Concat.{flat_map-append}
use Rattle.std.proofs.lemmas.List.Elements.{All-head, All-tail, All-nil, All-cons}
use Rattle.std.proofs.Math.Seq.{drop-append-add}
use Rattle.std.proofs.Math.Bool.{and-false}
use Rattle.m2v_bits.specs.Bits.{bits_of, number, bits, packed, unit, to_edge}
use Rattle.m2v_bits.proofs.Units.{unit_edge, packed-append}
use Rattle.m2v_model.specs.Faults.{InUnit}
use Rattle.m2v_model.specs.Units.{begins_code, joined, Clear, AreUnits, Cuts, Units, inside}
use Rattle.m2v_model.specs.Texts.{ended, unit_bytes, IsCalm, IsTidy, PacksEach, Packs}
use Rattle.m2v_model.proofs.Calm.{calm_end}
use Rattle.m2v_model.proofs.Units.{ended_bits, are_units, packs_unit, packs_append}

-- a unit, and zero bytes behind it
abbrev pub padded : List ℕ → ℕ → List ℕ
padded u zeros = u ++ replicate zeros 0

-- a unit whose text has no prefix of a start code, and perhaps zero bytes behind it
pub record IsPadded (u : List ℕ) : Type 0 where
  pub unit : List ℕ
  pub zeros : ℕ
  pub is : u ≡ padded unit zeros
  pub tidy : IsTidy unit

-- a text of such units
abbrev pub Holds : List Bool → Units → Type 0
Holds = PacksEach IsPadded

-- ---- zero bytes

zero_byte : packed (replicate 8 false) ≡ 0 ∷ []
unfolding packed number
zero_byte = refl

pub packed_zeros : (k : ℕ) → packed (replicate (8 * k) false) ≡ replicate k 0
unfolding packed
packed_zeros zero = refl
packed_zeros (suc k) =
    let e : 8 * suc k ≡ 8 + 8 * k = omega arith in
    ap (λ (n : ℕ). packed (replicate n false)) e
    ∙ ap packed (sym (replicate-append-replicate 8 (8 * k) false))
    ∙ packed-append (replicate 8 false) (replicate (8 * k) false) refl
    ∙ ap (λ (xs : List ℕ). xs ++ packed (replicate (8 * k) false)) zero_byte
    ∙ ap (λ (xs : List ℕ). 0 ∷ xs) (packed_zeros k)

eight_zeros : bits_of 8 0 ≡ replicate 8 false
unfolding bits_of
eight_zeros = refl

zero_bits : (k : ℕ) → bits (replicate k 0) ≡ replicate (8 * k) false
zero_bits zero = refl
zero_bits (suc k) =
    let e : 8 + 8 * k ≡ 8 * suc k = omega arith in
    ap (λ (t : List Bool). t ++ bits (replicate k 0)) eight_zeros
    ∙ ap (λ (t : List Bool). replicate 8 false ++ t) (zero_bits k)
    ∙ replicate-append-replicate 8 (8 * k) false
    ∙ ap (λ (n : ℕ). replicate n false) e

-- how many zero bits stand behind a text
abbrev pub zeros_behind : List Bool → ℕ → ℕ
zeros_behind t zeros = to_edge (32 + length t) + 8 * zeros

-- the bits behind the start code of a unit with zero bytes
padded_bits : (t : List Bool) (zeros : ℕ) → bits (packed (ended t) ++ replicate zeros 0) ≡ t ++ replicate (zeros_behind t zeros) false
unfolding ended
padded_bits t zeros =
    flat_map-append (bits_of 8) (packed (ended t)) (replicate zeros 0)
    ∙ ap (λ (x : List Bool). x ++ bits (replicate zeros 0)) (ended_bits t)
    ∙ ap (λ (x : List Bool). ended t ++ x) (zero_bits zeros)
    ∙ append_assoc t (replicate (to_edge (32 + length t)) false) (replicate (8 * zeros) false)
    ∙ ap (λ (x : List Bool). t ++ x) (replicate-append-replicate (to_edge (32 + length t)) (8 * zeros) false)

-- what stands in a text, whatever zeros follow, stands in such a unit
pub padded_stands : {V : Type 0} (s : InUnit V) (value zeros : ℕ) (t : List Bool) (v : V) (us : Units) (end : List Bool)
    → s.Stands v (t ++ replicate (zeros_behind t zeros) false) end → (inside (padded (unit_bytes value t) zeros) s).Stands v us us
unfolding inside
padded_stands s value zeros t v us end h = (refl, (end, subst (λ (x : List Bool). s.Stands v x end) (sym (padded_bits t zeros)) h))

-- ---- texts

tidy_padded : (u : List ℕ) → IsTidy u → IsPadded u
tidy_padded u h = record { unit = u; zeros = 0; is = sym (append-nil u); tidy = h }

all_padded : (us : Units) → All IsTidy us → All IsPadded us
all_padded [] h = All-nil IsPadded
all_padded (u ∷ us) h = All-cons IsPadded u us (tidy_padded u (All-head IsTidy u us h)) (all_padded us (All-tail IsTidy u us h))

pub holds_packs : (text : List Bool) (us : Units) → Packs text us → Holds text us
holds_packs text us h = record { edge = h.edge; bytes = h.bytes; each = all_padded us h.each }

-- a unit, and zero bytes behind it
pub holds_zeros : (value zeros : ℕ) (t : List Bool) → value < 256 → IsCalm t
    → Holds (unit value t ++ replicate (8 * zeros) false) (padded (unit_bytes value t) zeros ∷ [])
holds_zeros value zeros t below calm =
    let p = packs_unit value t below calm in
    let u = unit_bytes value t in
    record {
      edge = omega (arith, length-append (unit value t) (replicate (8 * zeros) false), length-replicate (8 * zeros) false, unit_edge value t);
      bytes = packed-append (unit value t) (replicate (8 * zeros) false) (unit_edge value t)
          ∙ ap (λ (x : List ℕ). x ++ packed (replicate (8 * zeros) false)) (p.bytes ∙ append-nil u)
          ∙ ap (λ (x : List ℕ). u ++ x) (packed_zeros zeros)
          ∙ sym (append-nil (padded u zeros));
      each = All-cons IsPadded (padded u zeros) [] (record { unit = u; zeros = zeros; is = refl; tidy = All-head IsTidy u [] p.each }) (All-nil IsPadded);
    }

-- ---- no start code inside

-- at a byte of a unit, behind which two zero bytes stand, what follows these doesn't count
here_same : (a : ℕ) (u w x : List ℕ) → begins_code (a ∷ (u ++ (0 ∷ 0 ∷ w))) ≡ false → begins_code (a ∷ (u ++ (0 ∷ 0 ∷ x))) ≡ false
here_same a [] w [] h = refl
here_same a [] w (y ∷ x) h = and-false (nat_eq a 0)
here_same a (b ∷ []) w x h = rw (and-false (nat_eq b 0)) (and-false (nat_eq a 0))
here_same a (b ∷ c ∷ []) w x h = h
here_same a (b ∷ c ∷ d ∷ u) w x h = h

same_at : (u w x : List ℕ) (i : ℕ) → i < length u → begins_code (drop i (u ++ (0 ∷ 0 ∷ w))) ≡ false → begins_code (drop i (u ++ (0 ∷ 0 ∷ x))) ≡ false
same_at [] w x i lt h = absurd (omega (arith, lt))
same_at (a ∷ u) w x zero lt h = here_same a u w x h
same_at (a ∷ u) w x (suc i) lt h = same_at u w x i (omega (arith, lt)) h

-- zero bytes, and two more
front_zeros : (z : ℕ) (w : List ℕ) → (x : List ℕ) × (replicate z 0 ++ (0 ∷ 0 ∷ w) ≡ 0 ∷ 0 ∷ x)
front_zeros zero w = (w, refl)
front_zeros (suc z) w = let f = front_zeros z w in (0 ∷ f.0, ap (λ (t : List ℕ). 0 ∷ t) f.1)

three_zeros : (x : List ℕ) → begins_code (0 ∷ 0 ∷ 0 ∷ x) ≡ false
three_zeros [] = refl
three_zeros (y ∷ x) = refl

zeros_clear : (z i : ℕ) (w : List ℕ) → i < z → begins_code (drop i (replicate z 0 ++ (0 ∷ 0 ∷ w))) ≡ false
zeros_clear zero i w lt = absurd (omega (arith, lt))
zeros_clear (suc z) zero w lt =
    let f = front_zeros z w in
    ap (λ (t : List ℕ). begins_code (0 ∷ t)) f.1 ∙ three_zeros f.0
zeros_clear (suc z) (suc i) w lt = zeros_clear z i w (omega (arith, lt))

padded_clear : (k : ℕ) (u w v : List ℕ) (z : ℕ) → Clear k u (0 ∷ 0 ∷ w) → Clear k (padded u z) (0 ∷ 0 ∷ v)
padded_clear k u w v z h i from lt =
    let zs = replicate {A = ℕ} z 0 in
    let whole : (u ++ zs) ++ (0 ∷ 0 ∷ v) ≡ u ++ (zs ++ (0 ∷ 0 ∷ v)) = append_assoc u zs (0 ∷ 0 ∷ v) in
    let len : length (u ++ zs) ≡ length u + z = length-append u zs ∙ ap (λ (n : ℕ). length u + n) (length-replicate z 0) in
    elim (cases_lt i (length u)) [
      | inl inside_it ↦
          let f = front_zeros z v in
          ap (λ (t : List ℕ). begins_code (drop i t)) (whole ∙ ap (λ (t : List ℕ). u ++ t) f.1)
          ∙ same_at u w f.0 i inside_it (h i from inside_it)
      | inr past ↦
          let e : i ≡ length u + (i - length u) = omega (arith, past) in
          ap (λ (t : List ℕ). begins_code (drop i t)) whole
          ∙ ap (λ (n : ℕ). begins_code (drop n (u ++ (zs ++ (0 ∷ 0 ∷ v))))) e
          ∙ ap begins_code (drop-append-add u (zs ++ (0 ∷ 0 ∷ v)) (i - length u))
          ∙ zeros_clear z (i - length u) v (omega (arith, past, lt, len))
    ]

-- what a padded unit is behind which two zero bytes stand
unit_text : (value : ℕ) (t : List Bool) → IsCalm t → (w : List ℕ) × Clear 4 (unit_bytes value t) (0 ∷ 0 ∷ w)
unit_text value t h =
    let e = unit_bytes 0xB7 [] in
    let one : IsTidy (unit_bytes value t) = record { value = value; text = t; is = refl; calm = h } in
    let two : IsTidy e = record { value = 0xB7; text = []; is = refl; calm = calm_end [] (omega arith) } in
    let all = are_units (unit_bytes value t ∷ e ∷ []) (All-cons IsTidy (unit_bytes value t) (e ∷ []) one (All-cons IsTidy e [] two (All-nil IsTidy))) in
    (_, all.2)

long_unit : (value z : ℕ) (t : List ℕ) → 4 ≤ length (padded (0 ∷ 0 ∷ 1 ∷ value ∷ t) z)
long_unit value z t = omega arith

begins_unit : (value z : ℕ) (t : List ℕ) → begins_code (padded (0 ∷ 0 ∷ 1 ∷ value ∷ t) z) ≡ true
begins_unit value z t = refl

-- begins with two zero bytes
abbrev Begins : List ℕ → Type 0
Begins bytes = (w : List ℕ) × (bytes ≡ 0 ∷ 0 ∷ w)

begins_tidy : (u rest : List ℕ) → IsTidy u → Begins (u ++ rest)
begins_tidy u rest h = (_, ap (λ (x : List ℕ). x ++ rest) h.is)

begins_all : (us : Units) (e : List ℕ) → All IsPadded us → IsTidy e → Begins (joined (us ++ e ∷ []))
begins_all [] e h last = begins_tidy e [] last
begins_all (u ∷ us) e h last =
    let p = All-head IsPadded u us h in
    let rest = joined (us ++ e ∷ []) in
    let b = begins_tidy p.unit (replicate p.zeros 0 ++ rest) p.tidy in
    (b.0, ap (λ (x : List ℕ). x ++ rest) p.is ∙ append_assoc p.unit (replicate p.zeros 0) rest ∙ b.1)

abbrev IsUnit : List ℕ → List ℕ → Type 0
IsUnit u rest = (4 ≤ length u) × (begins_code u ≡ true) × Clear 4 u rest

padded_unit : (u rest : List ℕ) → IsPadded u → Begins rest → IsUnit u rest
padded_unit u rest h b =
    let t = h.tidy in
    let clear = unit_text t.value t.text t.calm in
    let here : IsUnit (padded (unit_bytes t.value t.text) h.zeros) (0 ∷ 0 ∷ b.0) = (
      long_unit t.value h.zeros (packed (ended t.text)),
      begins_unit t.value h.zeros (packed (ended t.text)),
      padded_clear 4 (unit_bytes t.value t.text) clear.0 b.0 h.zeros clear.1,
    ) in
    subst (λ (x : List ℕ). IsUnit x rest) (sym (h.is ∙ ap (λ (x : List ℕ). padded x h.zeros) t.is))
    (subst (IsUnit (padded (unit_bytes t.value t.text) h.zeros)) (sym b.1) here)

padded_units : (us : Units) (e : List ℕ) → All IsPadded us → IsTidy e → AreUnits (us ++ e ∷ [])
padded_units [] e h last = are_units (e ∷ []) (All-cons IsTidy e [] last (All-nil IsTidy))
padded_units (u ∷ us) e h last =
    let later = All-tail IsPadded u us h in
    let here = padded_unit u (joined (us ++ e ∷ [])) (All-head IsPadded u us h) (begins_all us e later last) in
    (here.0, here.1, here.2, padded_units us e later last)

-- a text of such units, and a last one without zero bytes, is cut into them
pub padded_cuts : (text end : List Bool) (us : Units) (e : List ℕ) → Holds text us → Packs end (e ∷ []) → Cuts (packed (text ++ end)) [] (us ++ e ∷ [])
padded_cuts text end us e h p =
    let all = packs_append text end us (e ∷ []) h (holds_packs end (e ∷ []) p) in
    record {
      whole = all.bytes;
      front_clear = λ i le lt. absurd (omega (arith, lt));
      are_units = padded_units us e h.each (All-head IsTidy e [] p.each);
    }
