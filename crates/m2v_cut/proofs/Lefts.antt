-- Places by how many bits are left.
use Rattle.std.proofs.Common.{◌≡◌, ℕ, ◌+◌, ◌-◌, ◌*◌, ◌/◌, ◌<◌, ◌≤◌, Bool, true, false, List, [], ◌∷◌, ◌++◌, length, drop, take, inl, inr, refl, sym, ap, subst, ◌∙◌, append_assoc, arith}
use Rattle.std.specs.Prelude.{nat_eq, nat_le, not, ◌&&◌, ◌||◌, if◌then◌else◌}
use Rattle.std.proofs.lemmas.Bool.{cases_Bool}
use Rattle.m2v_model.specs.Units.{Units, cut, unit_bits, joined}
use Rattle.m2v_model.specs.Streams.{value_of}
use Rattle.m2v_model.specs.Pieces.{is_end}
use Rattle.m2v_model.proofs.CutLaws.{joined_bits}
use Rattle.m2v_model.proofs.ShiftLaws.{unit_bits-append}
use Rattle.m2v_law_group.specs.Groups.{is_sequence, has_sequence, group_headers, to_end, from_last_sequence, before_group, from_group}
use Rattle.m2v_cut.specs.declared.start.Start.{Start}
use Rattle.m2v_cut.specs.Answers.{first_picture, units_of}
use Rattle.m2v_cut.specs.Progress.{bytes_of, part}
use Rattle.m2v_cut.specs.Starts.{IsSequencePlace, IsLooked, IsStart, is_long}
use Rattle.m2v_cut.proofs.Places.{holds}

-- units from a place on are the last ones
pub record IsBehind (us xs : Units) : Type 0 where
  pub front : Units
  pub is : us ≡ front ++ xs

pub last_suffix : (us : Units) → IsBehind us (from_last_sequence us)
unfolding from_last_sequence
last_suffix [] = record { front = []; is = refl }
last_suffix (u ∷ us) = elim (cases_Bool (is_sequence u && not (has_sequence us))) [
  | inl on ↦ rw on (record { front = []; is = refl })
  | inr off ↦ let r = last_suffix us in rw off (record { front = u ∷ r.front; is = ap (λ (l : Units). u ∷ l) r.is })
]

pub left_less : (us xs : Units) (total left : ℕ) → IsBehind us xs → total ≡ unit_bits us → left ≡ unit_bits xs → left ≤ total
left_less us xs total left b t l = omega (arith, t, l, ap unit_bits b.is, unit_bits-append b.front xs)

pub left_place : (us xs : Units) (total left : ℕ) → IsBehind us xs → total ≡ unit_bits us → left ≡ unit_bits xs → 8 * ((total - left) / 8) + unit_bits xs ≡ unit_bits us
left_place us xs total left b t l =
    let all : unit_bits us ≡ unit_bits b.front + unit_bits xs = ap unit_bits b.is ∙ unit_bits-append b.front xs in
    let whole : unit_bits b.front ≡ 8 * length (joined b.front) = joined_bits b.front in
    omega (arith, t, l, all, whole)

-- the last sequence header before a group, and the group behind it
pub sequence_behind : (n : ℕ) (us : Units) → n < group_headers us → IsBehind us (from_last_sequence (before_group n us) ++ from_group n us)
sequence_behind n us less =
    let h = holds n us [] less in
    let s = last_suffix (before_group n us) in
    record {
      front = s.front;
      is = h.whole ∙ ap (λ (l : Units). l ++ from_group n us) s.is ∙ append_assoc s.front (from_last_sequence (before_group n us)) (from_group n us);
    }

pub group_behind : (n : ℕ) (us : Units) → n < group_headers us → IsBehind us (from_group n us)
group_behind n us less = let h = holds n us [] less in record { front = before_group n us; is = h.whole }

pub header_there : (n : ℕ) (us : Units) → n < group_headers us → from_group n us ≡ [] → ⊥
header_there n us less none =
    let h = holds n us [] less in
    let e : [] ≡ h.head ∷ h.rest = sym none ∙ h.is in
    absurd cc

pub bits_long : (bits n : ℕ) → bits ≡ 8 * n → nat_le 64 bits ≡ nat_le 8 n
bits_long bits n e = elim (cases_Bool (nat_le 8 n)) [
  | inl on ↦ grind (arith, e, on)
  | inr off ↦ grind (arith, e, off)
]

header_bits : (n : ℕ) (us rest : Units) (u : List ℕ) (left bits : ℕ) → from_group n us ≡ u ∷ rest → left ≡ unit_bits rest → bits ≡ 8 * length u → left + bits ≡ unit_bits (from_group n us)
header_bits n us rest u left bits is l b = omega (arith, ap unit_bits is, l, b)

pub header_less : (n : ℕ) (us rest : Units) (u : List ℕ) (total left bits : ℕ) → n < group_headers us → from_group n us ≡ u ∷ rest → total ≡ unit_bits us → left ≡ unit_bits rest → bits ≡ 8 * length u → left + bits ≤ total
header_less n us rest u total left bits less is t l b = left_less us (from_group n us) total (left + bits) (group_behind n us less) t (header_bits n us rest u left bits is l b)

-- what a piece tells of a group whose header was found
pub start_told : (n : ℕ) (us rest : Units) (u : List ℕ) (total left bits : ℕ) (s : Start) → n < group_headers us → from_group n us ≡ u ∷ rest → total ≡ unit_bits us → left ≡ unit_bits rest → bits ≡ 8 * length u
    → IsSequencePlace s.sequence us (before_group n us) (from_group n us) → s.header ≡ (total - (left + bits)) / 8 → s.long ≡ nat_le 64 bits → IsLooked (first_picture rest) s.first → IsStart us n s
start_told n us rest u total left bits s less is t l b sequence header long first = record {
  sequence = sequence;
  header = ap (λ (k : ℕ). 8 * k + unit_bits (from_group n us)) header ∙ left_place us (from_group n us) total (left + bits) (group_behind n us less) t (header_bits n us rest u left bits is l b);
  long = long ∙ bits_long bits (length u) b ∙ ap is_long (sym is);
  first = subst (λ (xs : Units). IsLooked (first_picture (drop 1 xs)) s.first) (sym is) first;
}

-- ---- a piece without its end code

pub end_less : (us : Units) → unit_bits (to_end us) ≤ unit_bits us
unfolding to_end
end_less [] = omega arith
end_less (u ∷ us) = elim (cases_Bool (is_end (value_of u))) [
  | inl on ↦ rw on (omega arith)
  | inr off ↦ rw off (let e = end_less us in omega (arith, e))
]

pub bytes_are : (p : List ℕ) (bits : ℕ) → bits ≡ unit_bits (units_of p) → bits / 8 ≡ length (joined (units_of p))
bytes_are p bits e =
    let j = joined_bits (units_of p) in
    omega (arith, e, j)

pub bytes_less : (p : List ℕ) (bits most : ℕ) → bits ≡ unit_bits (units_of p) → unit_bits (cut 0 p).1 ≤ 8 * most → bits / 8 ≤ most
bytes_less p bits n e le =
    let l = end_less (cut 0 p).1 in
    omega (arith, e, l, le)

pub bytes_part : (p : List ℕ) (n : ℕ) → n ≡ length (joined (units_of p)) → part 0 n p ≡ bytes_of p
bytes_part p n e =
    let k : n - 0 ≡ length (joined (units_of p)) = omega (arith, e) in
    ap (λ (m : ℕ). take m p) k
