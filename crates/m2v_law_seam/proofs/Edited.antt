-- Units whose temporal references are lowered, and whose group headers are marked, stay units; and so do units without some
-- among them, and units behind a strand.
use Rattle.std.proofs.Common.{◌≡◌, ℕ, zero, suc, ◌+◌, ◌*◌, ◌/◌, ◌%◌, ◌≤◌, true, false, List, [], ◌∷◌, ◌++◌, length, map, inl, inr, refl, sym, ap, subst, ◌∙◌, append-nil, arith}
use Rattle.std.specs.Prelude.{nat_eq, nat_le, ◌&&◌}
use Rattle.std.proofs.lemmas.Bool.{cases_Bool, eqb-true, leb-true}
use Rattle.m2v_model.specs.Units.{Units, joined, Clear, AreUnits}
use Rattle.m2v_model.specs.Streams.{value_of}
use Rattle.m2v_model.specs.Pieces.{is_end}
use Rattle.m2v_model.proofs.CutLaws.{are_before, are_behind}
use Rattle.m2v_model.proofs.ShiftLaws.{NoEnds}
use Rattle.m2v_law_group.specs.Groups.{is_picture, is_group, end_code}
use Rattle.m2v_law_group.proofs.Lists.{and_parts}
use Rattle.m2v_law_group.proofs.Start.{header_value}
use Rattle.m2v_law_group.proofs.Texts.{are_swapped, code_bytes, are_changed, second_off, first_off}
use Rattle.m2v_law_seam.specs.Spans.{picture_count}
use Rattle.m2v_law_seam.specs.Seams.{type_of, is_typed, with_reference, lowered_unit, marked_unit}

-- ---- changed units

-- a change leaves a unit one, before whatever follows it, and with its value
pub record KeepsUnits (f : List ℕ → List ℕ) : Type 0 where
  pub unit : (u : List ℕ) (us : Units) → AreUnits (u ∷ us) → AreUnits (f u ∷ us)
  pub value : (u : List ℕ) → 4 ≤ length u → value_of (f u) ≡ value_of u

-- others behind a unit
tail_swapped : (u v w : List ℕ) (vs ws : Units) → AreUnits (u ∷ v ∷ vs) → AreUnits (w ∷ ws) → AreUnits (u ∷ w ∷ ws)
tail_swapped u v w vs ws are new =
    let b = code_bytes v are.3.1 in
    let c = code_bytes w new.1 in
    are_swapped (u ∷ []) (v ∷ vs) (w ∷ ws) 0x00 0x00 0x01 b.value c.value (b.rest ++ joined vs) (c.rest ++ joined ws) (ap (λ (l : List ℕ). l ++ joined vs) b.is) (ap (λ (l : List ℕ). l ++ joined ws) c.is) new are

pub mapped_units : (f : List ℕ → List ℕ) → KeepsUnits f → (us : Units) → AreUnits us → AreUnits (map f us)
mapped_units f k [] are = tt
mapped_units f k (u ∷ []) are = k.unit u [] are
mapped_units f k (u ∷ v ∷ us) are = k.unit u (f v ∷ map f us) (tail_swapped u v (f v) us (map f us) are (mapped_units f k (v ∷ us) are.3))

pub mapped_go : (f : List ℕ → List ℕ) → KeepsUnits f → (us : Units) → AreUnits us → NoEnds us → NoEnds (map f us)
mapped_go f k [] are n = tt
mapped_go f k (u ∷ us) are n = (ap is_end (k.value u are.0) ∙ n.0, mapped_go f k us are.3 n.1)

pub mapped_count : (f : List ℕ → List ℕ) → KeepsUnits f → (us : Units) → AreUnits us → picture_count (map f us) ≡ picture_count us
unfolding picture_count
mapped_count f k [] are = refl
mapped_count f k (u ∷ us) are =
    let same : is_picture (f u) ≡ is_picture u = ap (λ (n : ℕ). nat_eq n 0x00) (k.value u are.0) in
    let i = mapped_count f k us are.3 in
    rw (same, i) refl

-- ---- temporal references

-- bytes behind the start code of a picture, of which the second isn't 0
reference_clear : (a b c d e f m x : ℕ) (w rest : List ℕ) → nat_eq x 0 ≡ false → Clear 4 (a ∷ b ∷ c ∷ d ∷ e ∷ f ∷ w) rest → Clear 4 (a ∷ b ∷ c ∷ d ∷ m ∷ x ∷ w) rest
reference_clear a b c d e f m x w rest off h zero from lt = absurd (omega arith)
reference_clear a b c d e f m x w rest off h (suc zero) from lt = absurd (omega arith)
reference_clear a b c d e f m x w rest off h (suc (suc zero)) from lt = absurd (omega arith)
reference_clear a b c d e f m x w rest off h (suc (suc (suc zero))) from lt = absurd (omega arith)
reference_clear a b c d e f m x w rest off h (suc (suc (suc (suc zero)))) from lt = second_off m x (w ++ rest) off
reference_clear a b c d e f m x w rest off h (suc (suc (suc (suc (suc zero))))) from lt = first_off x (w ++ rest) off
reference_clear a b c d e f m x w rest off h (suc (suc (suc (suc (suc (suc i)))))) from lt = h (suc (suc (suc (suc (suc (suc i)))))) (omega arith) (omega (arith, lt))

-- the byte with the type isn't 0
type_byte : (f n : ℕ) → 1 ≤ f / 8 % 8 → 8 ≤ 64 * (n % 4) + f % 64
type_byte f n le = omega (arith, le)

not_eq_zero : (x : ℕ) → 8 ≤ x → nat_eq x 0 ≡ false
not_eq_zero x le = elim (cases_Bool (nat_eq x 0)) [ inl on ↦ absurd (omega (arith, eqb-true x 0 on, le)) | inr off ↦ off ]

record Six (u : List ℕ) : Type 0 where
  a : ℕ
  b : ℕ
  c : ℕ
  d : ℕ
  e : ℕ
  f : ℕ
  w : List ℕ
  is : u ≡ a ∷ b ∷ c ∷ d ∷ e ∷ f ∷ w

six : (u : List ℕ) → 6 ≤ length u → Six u
six (a ∷ b ∷ c ∷ d ∷ e ∷ f ∷ w) le = record { a = a; b = b; c = c; d = d; e = e; f = f; w = w; is = refl }
six _ le = absurd (omega arith)

reference_unit : (a b c d e f n : ℕ) (w : List ℕ) (us : Units) → 1 ≤ f / 8 % 8 → AreUnits ((a ∷ b ∷ c ∷ d ∷ e ∷ f ∷ w) ∷ us) → AreUnits ((a ∷ b ∷ c ∷ d ∷ (n / 4) ∷ (64 * (n % 4) + f % 64) ∷ w) ∷ us)
reference_unit a b c d e f n w us le are =
    let x = 64 * (n % 4) + f % 64 in
    (omega (arith, are.0), are.1, reference_clear a b c d e f (n / 4) x w (joined us) (not_eq_zero x (type_byte f n le)) are.2, are.3)

typed_long : (u : List ℕ) → is_typed u ≡ true → (6 ≤ length u) × (1 ≤ type_of u)
typed_long u h =
    let a = and_parts (is_picture u) _ h in
    let b = and_parts (nat_le 6 (length u)) _ a.1 in
    let c = and_parts (nat_le 1 (type_of u)) _ b.1 in
    (leb-true 6 (length u) b.0, leb-true 1 (type_of u) c.0)

referenced : (u : List ℕ) (n : ℕ) (us : Units) → is_typed u ≡ true → AreUnits (u ∷ us) → AreUnits (with_reference n u ∷ us)
referenced u n us h are =
    let t = typed_long u h in
    let s = six u t.0 in
    subst (λ (v : List ℕ). AreUnits (with_reference n v ∷ us)) (sym s.is)
    (reference_unit s.a s.b s.c s.d s.e s.f n s.w us (subst (λ (v : List ℕ). 1 ≤ type_of v) s.is t.1) (subst (λ (v : List ℕ). AreUnits (v ∷ us)) s.is are))

referenced_value : (u : List ℕ) (n : ℕ) → is_typed u ≡ true → value_of (with_reference n u) ≡ value_of u
referenced_value u n h =
    let s = six u (typed_long u h).0 in
    subst (λ (v : List ℕ). value_of (with_reference n v) ≡ value_of v) (sym s.is) refl

pub lowered_keeps : (low : ℕ) → KeepsUnits (lowered_unit low)
unfolding lowered_unit
lowered_keeps zero = record { unit = λ u us are. are; value = λ u le. refl }
lowered_keeps (suc n) = record {
  unit = λ u us are. elim (cases_Bool (is_typed u)) [ inl on ↦ rw on (referenced u _ us on are) | inr off ↦ rw off are ];
  value = λ u le. elim (cases_Bool (is_typed u)) [ inl on ↦ rw on (referenced_value u _ on) | inr off ↦ rw off refl ];
}

-- ---- group headers

pub marked_keeps : KeepsUnits marked_unit
unfolding marked_unit
marked_keeps = record {
  unit = λ u us are. elim (cases_Bool (is_group u && nat_le 8 (length u))) [
    | inl on ↦ rw on (are_changed [] us u (leb-true 8 (length u) (and_parts (is_group u) (nat_le 8 (length u)) on).1) are are)
    | inr off ↦ rw off are
  ];
  value = λ u le. elim (cases_Bool (is_group u && nat_le 8 (length u))) [
    | inl on ↦ rw on (header_value true u (leb-true 8 (length u) (and_parts (is_group u) (nat_le 8 (length u)) on).1))
    | inr off ↦ rw off refl
  ];
}

-- ---- some units among others

-- units behind those that are closed
pub behind_units : (us : Units) (v : List ℕ) (vs : Units) → AreUnits (us ++ end_code ∷ []) → AreUnits (v ∷ vs) → AreUnits (us ++ v ∷ vs)
behind_units us v vs closed are =
    let b = code_bytes v are.1 in
    are_swapped us (end_code ∷ []) (v ∷ vs) 0x00 0x00 0x01 0xB7 b.value [] (b.rest ++ joined vs) refl (ap (λ (l : List ℕ). l ++ joined vs) b.is) are closed

-- units with others in the place of what follows
pub place_units : (us : Units) (x : List ℕ) (xs : Units) (v : List ℕ) (vs : Units) → AreUnits (us ++ x ∷ xs) → AreUnits (v ∷ vs) → AreUnits (us ++ v ∷ vs)
place_units us x xs v vs old are =
    let c = code_bytes x (are_behind us (x ∷ xs) old).1 in
    let b = code_bytes v are.1 in
    are_swapped us (x ∷ xs) (v ∷ vs) 0x00 0x00 0x01 c.value b.value (c.rest ++ joined xs) (b.rest ++ joined vs) (ap (λ (l : List ℕ). l ++ joined xs) c.is) (ap (λ (l : List ℕ). l ++ joined vs) b.is) are old

-- units without those in their middle
pub without_middle : (xs ys zs : Units) → AreUnits (xs ++ (ys ++ zs)) → AreUnits (xs ++ zs)
without_middle xs [] zs are = are
without_middle xs (y ∷ ys) [] are = subst AreUnits (sym (append-nil xs)) (are_before xs ((y ∷ ys) ++ []) are)
without_middle xs (y ∷ ys) (z ∷ zs) are = place_units xs y (ys ++ z ∷ zs) z zs are (are_behind (y ∷ ys) (z ∷ zs) (are_behind xs ((y ∷ ys) ++ z ∷ zs) are))
