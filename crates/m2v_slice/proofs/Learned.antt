-- What a cache has learned once the needs of a job are learned, whatever it held before.
use Rattle.std.proofs.Common.{◌≡◌, ℕ, zero, suc, ◌+◌, ◌-◌, ◌*◌, ◌/◌, ◌%◌, ◌^◌, ◌<◌, ◌≤◌, min, List, ◌∷◌, length, get_or, refl, sym, ap, subst, ◌∙◌, arith, inl, inr}
use Rattle.std.specs.Prelude.{nat_eq, slice_set}
use Rattle.std.proofs.lemmas.Bool.{cases_eq, cond-true, cond-false, eq-eqb, ne_eqb}
use Rattle.std.proofs.lemmas.Nat.{div-mul-add, mod-mul-add}
use Rattle.std.proofs.lemmas.List.{length-set, get_or-set_same, get_or-set_other}
use Rattle.m2v_plane.specs.Samples.{Samples}
use Rattle.m2v_rate.specs.declared.values.Plan.{Plan}
use Rattle.m2v_rate.specs.Plans.{Entries, first_open}
use Rattle.m2v_core.specs.Book.{cache_after}
use Rattle.m2v_slice.specs.Slices.{CodedSlice}
use Rattle.m2v_slice.specs.declared.pieces.EncodeShared.TheVariants as part
use Rattle.m2v_slice.specs.Books.{Book, rows, coded, picture_at, slice_at, ledger_with, plan_job, slice_job, picture_of_job, part_of_job}
use Rattle.m2v_slice.specs.Cached.{Cached}
use Rattle.m2v_slice.specs.Jobs.{plan_piece, slice_piece, value_of, shared_part, shared_of, with_plan, with_bits, with_row, learned_of}

-- ---- jobs by their pictures

pub plan_picture : (b : Book) (p : ℕ) → picture_of_job b (plan_job b p) ≡ p
plan_picture b p =
    let e : p * (rows b + 1) + 0 ≡ p * (rows b + 1) = omega arith in
    subst (λ n. n / (rows b + 1) ≡ p) e (div-mul-add p (rows b + 1) 0 (omega arith))

pub plan_part : (b : Book) (p : ℕ) → part_of_job b (plan_job b p) ≡ 0
plan_part b p =
    let e : p * (rows b + 1) + 0 ≡ p * (rows b + 1) = omega arith in
    subst (λ n. n % (rows b + 1) ≡ 0) e (mod-mul-add p (rows b + 1) 0 (omega arith))

pub slice_picture : (b : Book) (p r : ℕ) → r < rows b → picture_of_job b (slice_job b p r) ≡ p
slice_picture b p r lt =
    let e : p * (rows b + 1) + (r + 1) ≡ slice_job b p r = omega arith in
    subst (λ n. n / (rows b + 1) ≡ p) e (div-mul-add p (rows b + 1) (r + 1) (omega (arith, lt)))

pub slice_part : (b : Book) (p r : ℕ) → r < rows b → part_of_job b (slice_job b p r) ≡ r + 1
slice_part b p r lt =
    let e : p * (rows b + 1) + (r + 1) ≡ slice_job b p r = omega arith in
    subst (λ n. n % (rows b + 1) ≡ r + 1) e (mod-mul-add p (rows b + 1) (r + 1) (omega (arith, lt)))

-- ---- values

pub value_plan : (b : Book) (j : ℕ) → part_of_job b j ≡ 0 → value_of b j ≡ plan_piece b (picture_of_job b j)
unfolding value_of
value_plan b j e = cond-true (nat_eq (part_of_job b j) 0) _ _ (eq-eqb (part_of_job b j) 0 e)

pub value_slice : (b : Book) (j : ℕ) → (part_of_job b j ≡ 0 → ⊥) → value_of b j ≡ slice_piece b (picture_of_job b j) (part_of_job b j - 1)
unfolding value_of
value_slice b j n = cond-false (nat_eq (part_of_job b j) 0) _ _ (ne_eqb (part_of_job b j) 0 n)

-- the slice of a job
abbrev pub slice_in : Book → ℕ → CodedSlice
slice_in b j = slice_at (coded b (picture_of_job b j + 1)) (picture_of_job b j) (part_of_job b j - 1)

pub shared_plan : (b : Book) (j : ℕ) → part_of_job b j ≡ 0
    → (let p = picture_of_job b j in
    let done = coded b (p + 1) in shared_of b j ≡ part.Plan (picture_at done p).plan (ledger_with b done (first_open p) done))
unfolding shared_part
shared_plan b j e = ap shared_part (value_plan b j e)

pub shared_slice : (b : Book) (j : ℕ) → (part_of_job b j ≡ 0 → ⊥) → shared_of b j ≡ part.Slice (slice_in b j).row (length (slice_in b j).text) (slice_in b j).work
unfolding shared_part
shared_slice b j n = ap shared_part (value_slice b j n)

-- ---- learning

learn_plan : (b : Book) (j : ℕ) (plan : Plan) (ledger : Entries) (c : Cached)
    → learned_of b j 0 (part.Plan plan ledger) c ≡ record c { learned = record { plan = plan; ledger = ledger; bits = 0; work = 0 } }
unfolding learned_of with_plan
learn_plan b j plan ledger c = refl

learn_bits : (b : Book) (j k : ℕ) (row : Samples) (bits work : ℕ) (c : Cached) → part_of_job b j ≡ 0
    → learned_of b j (suc k) (part.Slice row bits work) c
    ≡ record c { learned = record c.learned { bits = min (c.bits + bits) (2 ^ 64 - 1); work = min (c.work + work) (2 ^ 64 - 1) } }
unfolding learned_of with_bits with_row
learn_bits b j k row bits work c e = cond-true (nat_eq (part_of_job b j) 0) _ _ (eq-eqb (part_of_job b j) 0 e)

learn_row : (b : Book) (j k : ℕ) (row : Samples) (bits work : ℕ) (c : Cached) → (part_of_job b j ≡ 0 → ⊥)
    → learned_of b j (suc k) (part.Slice row bits work) c ≡ record c { rows = slice_set c.rows k row }
unfolding learned_of with_bits with_row
learn_row b j k row bits work c n = cond-false (nat_eq (part_of_job b j) 0) _ _ (ne_eqb (part_of_job b j) 0 n)

-- a job that makes a slice
abbrev pub IsSliceJob : Book → ℕ → Type 0
IsSliceJob b j = part_of_job b j ≡ 0 → ⊥

abbrev learned_so_far : Book → ℕ → List ℕ → ℕ → Cached → Cached
learned_so_far b j needs n c = cache_after (learned_of b j) (shared_of b) needs n c

-- the plan of a job, and the ledger with it
abbrev pub plan_in : Book → ℕ → Plan
plan_in b j = (picture_at (coded b (picture_of_job b j + 1)) (picture_of_job b j)).plan

abbrev pub ledger_in : Book → ℕ → Entries
ledger_in b j = let done = coded b (picture_of_job b j + 1) in ledger_with b done (first_open (picture_of_job b j)) done

first_learned : (b : Book) (j first : ℕ) (rest : List ℕ) (c : Cached) → part_of_job b first ≡ 0
    → learned_so_far b j (first ∷ rest) 1 c ≡ record c { learned = record { plan = plan_in b first; ledger = ledger_in b first; bits = 0; work = 0 } }
unfolding cache_after
first_learned b j first rest c e =
    ap (λ x. learned_of b j 0 x c) (shared_plan b first e) ∙ learn_plan b j (plan_in b first) (ledger_in b first) c

-- learning a slice, behind n others
next_slice : (b : Book) (j first : ℕ) (rest : List ℕ) (n : ℕ) (c : Cached) → IsSliceJob b (get_or rest n 0)
    → (let x = slice_in b (get_or rest n 0) in
    learned_so_far b j (first ∷ rest) (suc (suc n)) c ≡ learned_of b j (suc n) (part.Slice x.row (length x.text) x.work) (learned_so_far b j (first ∷ rest) (suc n) c))
unfolding cache_after
next_slice b j first rest n c need =
    ap (λ x. learned_of b j (suc n) x (learned_so_far b j (first ∷ rest) (suc n) c)) (shared_slice b (get_or rest n 0) need)

-- ---- rows

-- of a cache that has learned a plan and n rows
pub record HasRows (b : Book) (first : ℕ) (rest : List ℕ) (n total : ℕ) (c : Cached) : Type 0 where
  pub plan : c.plan ≡ plan_in b first
  pub ledger : c.ledger ≡ ledger_in b first
  pub row : (k : ℕ) (d : Samples) → k < n → get_or c.rows k d ≡ (slice_in b (get_or rest k 0)).row
  pub size : length c.rows ≡ total

next_row : (b : Book) (j first : ℕ) (rest : List ℕ) (n : ℕ) (c : Cached) → IsSliceJob b j → IsSliceJob b (get_or rest n 0)
    → learned_so_far b j (first ∷ rest) (suc (suc n)) c
    ≡ (let d = learned_so_far b j (first ∷ rest) (suc n) c in record d { rows = slice_set d.rows n (slice_in b (get_or rest n 0)).row })
next_row b j first rest n c is need =
    let x = slice_in b (get_or rest n 0) in
    next_slice b j first rest n c need ∙ learn_row b j n x.row (length x.text) x.work (learned_so_far b j (first ∷ rest) (suc n) c) is

pub after_rows : (b : Book) (j first : ℕ) (rest : List ℕ) (n : ℕ) (c : Cached) → IsSliceJob b j → part_of_job b first ≡ 0
    → ((k : ℕ) → k < n → IsSliceJob b (get_or rest k 0)) → n ≤ length c.rows
    → HasRows b first rest n (length c.rows) (learned_so_far b j (first ∷ rest) (suc n) c)
after_rows b j first rest zero c is e each le =
    subst (HasRows b first rest 0 (length c.rows)) (sym (first_learned b j first rest c e))
    (record { plan = refl; ledger = refl; row = λ k d lt. absurd (omega arith); size = refl })
after_rows b j first rest (suc n) c is e each le =
    let before = learned_so_far b j (first ∷ rest) (suc n) c in
    let x = (slice_in b (get_or rest n 0)).row in
    let h = after_rows b j first rest n c is e (λ k lt. each k (omega arith)) (omega arith) in
    subst (HasRows b first rest (suc n) (length c.rows)) (sym (next_row b j first rest n c is (each n (omega arith))))
    (record {
      plan = h.plan;
      ledger = h.ledger;
      row = λ k d lt. elim (cases_eq k n) [
        | inl same ↦ subst (λ i. get_or (slice_set before.rows n x) i d ≡ (slice_in b (get_or rest i 0)).row) (sym same) (get_or-set_same before.rows n x d (omega (arith, h.size)))
        | inr other ↦ get_or-set_other before.rows n k x d other ∙ h.row k d (omega arith)
      ];
      size = length-set before.rows n x ∙ h.size;
    })

-- ---- bits and work

-- a sum over the first n of these slices
unfoldable pub sum_before : (CodedSlice → ℕ) → Book → List ℕ → ℕ → ℕ
sum_before f b rest zero = 0
sum_before f b rest (suc n) = sum_before f b rest n + f (slice_in b (get_or rest n 0))

pub sum_more : (f : CodedSlice → ℕ) (b : Book) (rest : List ℕ) (n : ℕ) → sum_before f b rest (suc n) ≡ sum_before f b rest n + f (slice_in b (get_or rest n 0))
unfolding sum_before
sum_more f b rest n = refl

pub sum_none : (f : CodedSlice → ℕ) (b : Book) (rest : List ℕ) → 0 ≡ sum_before f b rest 0
unfolding sum_before
sum_none f b rest = refl

abbrev pub bits_of_slice : CodedSlice → ℕ
bits_of_slice x = length x.text

abbrev pub work_of_slice : CodedSlice → ℕ
work_of_slice x = x.work

-- none of these sums passes a number of 64 bits
abbrev pub AreSmall : Book → List ℕ → ℕ → Type 0
AreSmall b rest n = (k : ℕ) → k ≤ n → (sum_before bits_of_slice b rest k < 2 ^ 64) × (sum_before work_of_slice b rest k < 2 ^ 64)

pub record HasBits (b : Book) (first : ℕ) (rest : List ℕ) (n : ℕ) (c : Cached) : Type 0 where
  pub ledger : c.ledger ≡ ledger_in b first
  pub bits : c.bits ≡ sum_before bits_of_slice b rest n
  pub work : c.work ≡ sum_before work_of_slice b rest n

next_bits : (b : Book) (j first : ℕ) (rest : List ℕ) (n : ℕ) (c : Cached) → part_of_job b j ≡ 0 → IsSliceJob b (get_or rest n 0)
    → learned_so_far b j (first ∷ rest) (suc (suc n)) c
    ≡ (let d = learned_so_far b j (first ∷ rest) (suc n) c in record d {
      learned = record d.learned {
        bits = min (d.bits + length (slice_in b (get_or rest n 0)).text) (2 ^ 64 - 1);
        work = min (d.work + (slice_in b (get_or rest n 0)).work) (2 ^ 64 - 1);
      };
    })
next_bits b j first rest n c is need =
    let x = slice_in b (get_or rest n 0) in
    next_slice b j first rest n c need ∙ learn_bits b j n x.row (length x.text) x.work (learned_so_far b j (first ∷ rest) (suc n) c) is

bounded : (x y m z : ℕ) → x ≡ m → z ≡ m + y → z < 2 ^ 64 → min (x + y) (2 ^ 64 - 1) ≡ z
bounded x y m z e f lt = omega arith

pub after_bits : (b : Book) (j first : ℕ) (rest : List ℕ) (n : ℕ) (c : Cached) → part_of_job b j ≡ 0 → part_of_job b first ≡ 0
    → ((k : ℕ) → k < n → IsSliceJob b (get_or rest k 0)) → AreSmall b rest n
    → HasBits b first rest n (learned_so_far b j (first ∷ rest) (suc n) c)
after_bits b j first rest zero c is e each small =
    subst (HasBits b first rest 0) (sym (first_learned b j first rest c e))
    (record { ledger = refl; bits = sum_none bits_of_slice b rest; work = sum_none work_of_slice b rest })
after_bits b j first rest (suc n) c is e each small =
    let before = learned_so_far b j (first ∷ rest) (suc n) c in
    let x = slice_in b (get_or rest n 0) in
    let h = after_bits b j first rest n c is e (λ k lt. each k (omega arith)) (λ k le. small k (omega arith)) in
    let few = small (suc n) (omega arith) in
    subst (HasBits b first rest (suc n)) (sym (next_bits b j first rest n c is (each n (omega arith))))
    (record {
      ledger = h.ledger;
      bits = bounded before.bits (length x.text) (sum_before bits_of_slice b rest n) (sum_before bits_of_slice b rest (suc n)) h.bits (sum_more bits_of_slice b rest n) few.0;
      work = bounded before.work x.work (sum_before work_of_slice b rest n) (sum_before work_of_slice b rest (suc n)) h.work (sum_more work_of_slice b rest n) few.1;
    })
