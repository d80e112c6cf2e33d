-- A unit whose temporal reference is lowered, and a group header that is marked, in the bytes that are kept of them.
use Rattle.std.proofs.Common.{◌≡◌, ℕ, zero, suc, ◌+◌, ◌-◌, ◌*◌, ◌/◌, ◌%◌, ◌<◌, ◌≤◌, Bool, true, false, List, [], ◌∷◌, ◌++◌, length, set, get_or, replicate, refl, sym, ap, ◌∙◌, arith}
use Rattle.std.specs.Prelude.{nat_eq, nat_le, ◌&&◌}
use Rattle.std.proofs.lemmas.Bool.{leb-true, le-leb, lt-leb, eq-eqb, ne_eqb}
use Rattle.std.proofs.lemmas.List.{length-append, get_or-append-add}
use Rattle.m2v_dec_unit.specs.Texts.{text_of, IsZeroEnded}
use Rattle.m2v_dec_unit.proofs.Cuts.{text_length}
use Rattle.m2v_law_group.specs.Groups.{is_group, is_picture, with_broken_link}
use Rattle.m2v_law_group.proofs.Lists.{and_parts}
use Rattle.m2v_law_seam.specs.Seams.{is_typed, type_of, lowered_unit, marked_unit}
use Rattle.m2v_mend.specs.Editing.{EndsInZeros}
use Rattle.m2v_mend.proofs.EditLaws.{within_get}

-- ---- temporal references

pub lowered_zero : (by : ℕ) (u : List ℕ) → by ≡ 0 → u ≡ lowered_unit by u
unfolding lowered_unit
lowered_zero zero u e = refl
lowered_zero (suc n) u e = absurd (omega (arith, e))

pub lowered_other : (by : ℕ) (u : List ℕ) → is_typed u ≡ false → u ≡ lowered_unit by u
unfolding lowered_unit
lowered_other zero u e = refl
lowered_other (suc n) u e = rw e refl

abbrev lower_to : ℕ → List ℕ → List ℕ
lower_to r u = set (set u 4 (r / 4)) 5 (64 * (r % 4) + get_or (set u 4 (r / 4)) 5 0 % 64)

typed_six : (by a b c d e f r : ℕ) (w : List ℕ) → (by ≡ 0 → ⊥) → is_typed (a ∷ b ∷ c ∷ d ∷ e ∷ f ∷ w) ≡ true → r ≡ ((4 * e + f / 64) % 1024 + 1024 - by) % 1024
    → a ∷ b ∷ c ∷ d ∷ (r / 4) ∷ (64 * (r % 4) + f % 64) ∷ w ≡ lowered_unit by (a ∷ b ∷ c ∷ d ∷ e ∷ f ∷ w)
unfolding lowered_unit
typed_six zero a b c d e f r w off on is = absurd (off refl)
typed_six (suc n) a b c d e f r w off on is = rw (on, is) refl

pub lowered_typed : (u : List ℕ) (z by r : ℕ) → (by ≡ 0 → ⊥) → 6 ≤ length u → is_typed (text_of u z) ≡ true → r ≡ ((4 * get_or u 4 0 + get_or u 5 0 / 64) % 1024 + 1024 - by) % 1024
    → text_of (lower_to r u) z ≡ lowered_unit by (text_of u z)
lowered_typed (a ∷ b ∷ c ∷ d ∷ e ∷ f ∷ w) z by r off le on is = typed_six by a b c d e f r (w ++ replicate z 0) off on is
lowered_typed _ z by r off le on is = absurd (omega arith)

-- the last byte behind others
last_of : (p : List ℕ) (x : ℕ) (w : List ℕ) → get_or (p ++ x ∷ w) (length (p ++ x ∷ w) - 1) 0 ≡ get_or (x ∷ w) (length w) 0
last_of p x w =
    let at : length (p ++ x ∷ w) - 1 ≡ length p + length w = omega (arith, length-append p (x ∷ w)) in
    ap (λ (k : ℕ). get_or (p ++ x ∷ w) k 0) at ∙ get_or-append-add p (x ∷ w) (length w) 0

-- the byte with the type isn't 0
typed_byte : (u : List ℕ) → is_typed u ≡ true → 1 ≤ type_of u
typed_byte u h =
    let a = and_parts (is_picture u) _ h in
    let b = and_parts (nat_le 6 (length u)) _ a.1 in
    let c = and_parts (nat_le 1 (type_of u)) _ b.1 in
    leb-true 1 (type_of u) c.0

pub lowered_ended : (u : List ℕ) (z r : ℕ) → 6 ≤ length u → is_typed (text_of u z) ≡ true → IsZeroEnded u z → IsZeroEnded (lower_to r u) z
lowered_ended (a ∷ b ∷ c ∷ d ∷ e ∷ f ∷ []) z r le on h pos =
    let some : 1 ≤ f / 8 % 8 = typed_byte (text_of (a ∷ b ∷ c ∷ d ∷ e ∷ f ∷ []) z) on in
    let none : f ≡ 0 = (h pos).1 in
    absurd (omega (arith, some, none))
lowered_ended (a ∷ b ∷ c ∷ d ∷ e ∷ f ∷ x ∷ w) z r le on h pos = (omega arith, last_of (a ∷ b ∷ c ∷ d ∷ (r / 4) ∷ (64 * (r % 4) + f % 64) ∷ []) x w ∙ sym (last_of (a ∷ b ∷ c ∷ d ∷ e ∷ f ∷ []) x w) ∙ (h pos).1)
lowered_ended _ z r le on h pos = absurd (omega arith)

-- ---- group headers

pub marked_on : (u : List ℕ) (z b : ℕ) → get_or u 3 0 ≡ 0xB8 → 8 ≤ length u → b ≡ with_broken_link (get_or u 7 0) → text_of (set u 7 b) z ≡ marked_unit (text_of u z)
unfolding marked_unit
marked_on (a ∷ s ∷ c ∷ d ∷ e ∷ f ∷ g ∷ h ∷ w) z b on le is =
    let long : nat_le 8 (length (a ∷ s ∷ c ∷ d ∷ e ∷ f ∷ g ∷ h ∷ (w ++ replicate z 0))) ≡ true = le-leb 8 _ (omega arith) in
    let group : nat_eq d 0xB8 ≡ true = eq-eqb d 0xB8 on in
    rw (group, long, is) refl
marked_on _ z b on le is = absurd (omega arith)

unmarked : (u : List ℕ) (x y : Bool) → is_group u ≡ x → nat_le 8 (length u) ≡ y → (x && y) ≡ false → u ≡ marked_unit u
unfolding marked_unit
unmarked u x y ex ey off = rw (ex, ey, off) refl

value_at : (u : List ℕ) (z : ℕ) (b : Bool) → 4 ≤ length u → nat_eq (get_or u 3 0) 0xB8 ≡ b → is_group (text_of u z) ≡ b
value_at u z b le e = ap (λ (n : ℕ). nat_eq n 0xB8) (within_get u z 3 (omega (arith, le))) ∙ e

pub marked_other : (u : List ℕ) (z : ℕ) → 4 ≤ length u → (get_or u 3 0 ≡ 0xB8 → ⊥) → text_of u z ≡ marked_unit (text_of u z)
marked_other u z le off = unmarked (text_of u z) false (nat_le 8 (length (text_of u z))) (value_at u z false le (ne_eqb (get_or u 3 0) 0xB8 off)) refl refl

pub marked_short : (u : List ℕ) (z : ℕ) → 4 ≤ length u → EndsInZeros u z → get_or u 3 0 ≡ 0xB8 → length u < 8 → text_of u z ≡ marked_unit (text_of u z)
marked_short u zero le h on lt =
    let few : nat_le 8 (length (text_of u 0)) ≡ false = lt-leb 8 (length (text_of u 0)) (omega (arith, lt, text_length u 0)) in
    unmarked (text_of u 0) true false (value_at u 0 true le (eq-eqb (get_or u 3 0) 0xB8 on)) few refl
marked_short u (suc z) le h on lt =
    let zero_there : get_or u 3 0 ≡ 0 = h (omega arith) 3 (omega (arith, lt)) in
    absurd (omega (arith, zero_there, on))
