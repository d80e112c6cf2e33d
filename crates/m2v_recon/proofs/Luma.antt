-- Luma blocks in 16 lines of 16.
use Rattle.std.proofs.Common.{◌≡◌, ◌≢◌, ℕ, ◌^◌, ◌+ℤ◌, ◌+◌, ◌-◌, ◌*◌, ◌%◌, ◌<◌, ◌≤◌, Bool, true, false, ◌&&◌, cond, nat_lt, List, length, map, get_or, replicate, refl, ap, subst, sym, ◌∙◌, arith, ℤ, pos, inl, inr}
use Rattle.std.proofs.lemmas.Bool.{cases_lt, cases_eq}
use Rattle.std.proofs.lemmas.Bool.Decides.{nat_tests}
use Rattle.std.proofs.lemmas.List.{get_or-map}
use Rattle.m2v_pred.specs.m2v_plane.declared.planes.Plane.TheVariants.{Y}
use Rattle.m2v_idct.specs.Block.{nth}
use Rattle.std.proofs.lemmas.Int.{ints, clamps}
use Rattle.m2v_quant.specs.declared.kind.BlockKind.{BlockKind}
use Rattle.m2v_recon.specs.Macro.{clamped, BlockPlace, block_of, is_alone, is_coded, kind_at, residual}
use Rattle.m2v_quant.specs.Coefficients.{coefficients_of}
use Rattle.m2v_idct.specs.Inverse.{clip, inverse_of}
use Rattle.m2v_recon.specs.Steps.{luma_line, luma_place, difference_at, rebuilt, own_list}

one_more : (k n : ℕ) → k ≢ n → nat_lt k n ≡ nat_lt k (n + 1)
one_more k n ne = grind (arith, nat_tests)

is_less : (k n : ℕ) → k < n → nat_lt k n ≡ true
is_less k n lt = grind (arith, nat_tests)

-- a line begins behind the ones before
pub place_later : (field : Bool) (block k n : ℕ) → k < n → luma_place field block k + 16 ≤ luma_place field block n
place_later false block k n lt = omega arith
place_later true block k n lt = omega arith

-- a sample of which nothing is known yet, by its place
abbrev pub spot : List ℕ → ℕ → ℕ
spot xs i = get_or xs i 0

-- a sample and its difference, or the difference alone
abbrev pub plus : Bool → ℕ → ℤ → ℕ
plus alone sample difference = clamped (pos (cond alone 0 sample) +ℤ difference)

pub plus_none : (x : ℕ) → x < 2 ^ 8 → plus false x (pos 0) ≡ x
plus_none x lt = omega (arith, ints, clamps)

pub not_added : (coded : Bool) (levels : List ℤ) (kind : BlockKind) (i x : ℕ) → coded ≡ false → x < 2 ^ 8 → x ≡ rebuilt coded levels kind i x
not_added coded levels kind i x off lt = sym (ap (λ b. rebuilt b levels kind i x) off ∙ plus_none x lt)

-- what is clamped needs no clip before
pub clip_kept : (x : ℕ) (z : ℤ) → x < 2 ^ 8 → plus false x z ≡ plus false x (clip z)
clip_kept x z small = omega (arith, ints, clamps)

pub alone_kept : (x : ℕ) (z : ℤ) → clamped z ≡ plus true x (clip z)
alone_kept x z = omega (arith, ints, clamps)

pub added : (coded : Bool) (levels : List ℤ) (kind : BlockKind) (i x : ℕ) (values : List ℤ) → coded ≡ true
    → map clip values ≡ inverse_of (coefficients_of levels kind) → i < length values
    → plus kind.intra x (clip (nth values i)) ≡ rebuilt coded levels kind i x
added coded levels kind i x values on are inside =
    ap (λ z. plus kind.intra x z) (sym (get_or-map clip values i (pos 0) (pos 0) inside) ∙ ap (λ zs. nth zs i) are)
    ∙ sym (ap (λ b. rebuilt b levels kind i x) on)

-- one line more
pub lines_more : (field : Bool) (block n at : ℕ) (intra : Bool) (old mid new : List ℕ) (d : ℕ → ℤ) → at ≡ luma_place field block n
    → ((k j : ℕ) → k < n → j < 8 → spot mid (luma_place field block k + j) ≡ plus intra (spot old (luma_place field block k + j)) (d (8 * k + j)))
    → ((i : ℕ) → ((k j : ℕ) → k < n → j < 8 → i ≢ luma_place field block k + j) → spot mid i ≡ spot old i)
    → ((j : ℕ) → j < 8 → spot new (at + j) ≡ plus intra (spot mid (at + j)) (d (8 * n + j)))
    → ((i : ℕ) → i < at → spot new i ≡ spot mid i)
    → (k j : ℕ) → k < n + 1 → j < 8 → spot new (luma_place field block k + j) ≡ plus intra (spot old (luma_place field block k + j)) (d (8 * k + j))
lines_more field block n at intra old mid new d place before rest within stay k j lt small =
    elim (cases_lt k n) [
      | inl less ↦
          let later = place_later field block k n less in
          stay (luma_place field block k + j) (omega arith) ∙ before k j less small
      | inr more ↦
          let here : k ≡ n = omega arith in
          let at_is : luma_place field block k + j ≡ at + j = ap (λ m. luma_place field block m + j) here ∙ ap (λ m. m + j) (sym place) in
          let untouched : spot mid (at + j) ≡ spot old (at + j) =
          rest (at + j) (λ m i less low. let later = place_later field block m n less in λ same. absurd (omega (arith, later, same, place))) in
          ap (spot new) at_is ∙ within j small
          ∙ (λ i. plus intra ((untouched ∙ ap (spot old) (sym at_is)) i) (d (8 * (sym here) i + j)))
    ]

-- eight samples more of a block whose lines stand one behind another
pub eight_more : (n : ℕ) (intra : Bool) (old mid new : List ℕ) (d : ℕ → ℤ)
    → ((i : ℕ) → i < 8 * n → spot mid i ≡ plus intra (spot old i) (d i))
    → ((i : ℕ) → 8 * n ≤ i → spot mid i ≡ spot old i)
    → ((j : ℕ) → j < 8 → spot new (8 * n + j) ≡ plus intra (spot mid (8 * n + j)) (d (8 * n + j)))
    → ((i : ℕ) → i < 8 * n → spot new i ≡ spot mid i)
    → (i : ℕ) → i < 8 * (n + 1) → spot new i ≡ plus intra (spot old i) (d i)
eight_more n intra old mid new d done rest within before i lt =
    elim (cases_lt i (8 * n)) [
      | inl less ↦ before i less ∙ done i less
      | inr more ↦
          let at_is : 8 * n + (i - 8 * n) ≡ i = omega (arith, more) in
          subst (λ k. spot new k ≡ plus intra (spot mid k) (d k)) at_is (within (i - 8 * n) (omega (arith, more, lt)))
          ∙ ap (λ x. plus intra x (d i)) (rest i more)
    ]

-- what is written nowhere stays
pub rest_more : (field : Bool) (block n at : ℕ) (old mid new : List ℕ) → at ≡ luma_place field block n
    → ((i : ℕ) → ((k j : ℕ) → k < n → j < 8 → i ≢ luma_place field block k + j) → spot mid i ≡ spot old i)
    → ((i : ℕ) → i < at → spot new i ≡ spot mid i)
    → ((i : ℕ) → at + 8 ≤ i → spot new i ≡ spot mid i)
    → (i : ℕ) → ((k j : ℕ) → k < n + 1 → j < 8 → i ≢ luma_place field block k + j) → spot new i ≡ spot old i
rest_more field block n at old mid new place before low high i other =
    let stays = before i (λ k j lt small. other k j (omega arith) small) in
    elim (cases_lt i at) [
      | inl less ↦ low i less ∙ stays
      | inr more ↦
          elim (cases_lt i (at + 8)) [
            | inl inside ↦
                let here : i ≡ luma_place field block n + (i - at) = omega (arith, place, more) in
                absurd (other n (i - at) (omega arith) (omega arith) here)
            | inr behind ↦ high i behind ∙ stays
          ]
    ]

-- where a luma sample stands among its block's, and back
pub place_again : (field : Bool) (l c : ℕ) → l < 16 → c < 16
    → luma_place field (block_of field Y l c).block (block_of field Y l c).line + (block_of field Y l c).column ≡ 16 * l + c
unfolding block_of
place_again false l c lt small = omega arith
place_again true l c lt small = omega arith

pub block_below : (field : Bool) (l c : ℕ) → l < 16 → c < 16
    → ((block_of field Y l c).block < 4) × ((block_of field Y l c).line < 8) × ((block_of field Y l c).column < 8)
unfolding block_of
block_below false l c lt small = (omega arith, omega arith, omega arith)
block_below true l c lt small = (omega arith, omega arith, omega arith)

pub block_known : (field : Bool) (block k j l c : ℕ) → block < 4 → k < 8 → j < 8 → l < 16 → c < 16
    → 16 * l + c ≡ luma_place field block k + j → (block_of field Y l c).block ≡ block
unfolding block_of
block_known false block k j l c b kk jj lt small same = omega arith
block_known true block k j l c b kk jj lt small same = omega arith

-- a luma line and column for each of a block's
pub line_below : (field : Bool) (block k j : ℕ) → block < 4 → k < 8 → j < 8
    → (luma_line field block k < 16) × (8 * (block % 2) + j < 16) × (16 * luma_line field block k + (8 * (block % 2) + j) ≡ luma_place field block k + j)
line_below false block k j b kk jj = (omega arith, omega arith, omega arith)
line_below true block k j b kk jj = (omega arith, omega arith, omega arith)

-- the levels of a block, as what holds them shows them
pub own_is : {L : Type 0} (list : L → List ℤ) (xs : List L) (k : ℕ) (d : L) → k < length xs → list (get_or xs k d) ≡ own_list (map list xs) k
own_is list xs k d lt = sym (get_or-map list xs k d (replicate 64 (pos 0)) lt)

-- a block's differences are those that the definition adds
pub residual_is : (lists : List (List ℤ)) (kinds : List BlockKind) (pattern block : ℕ) (coded : Bool) (place : BlockPlace) → place.block ≡ block → block < 4
    → coded ≡ is_coded pattern block
    → difference_at coded (own_list lists block) (kind_at kinds 0) (8 * place.line + place.column)
    ≡ residual lists pattern (kind_at kinds 0) (kind_at kinds 1) place
unfolding residual
residual_is lists kinds pattern block coded place same below told =
    let small : nat_lt place.block 4 ≡ true = luma_block place.block (omega (arith, same, below)) in
    let own : own_list lists place.block ≡ own_list lists block = ap (own_list lists) same in
    let is : coded ≡ is_coded pattern place.block = told ∙ ap (is_coded pattern) (sym same) in
    sym (rw (own, small, ← is) refl)
  where
    luma_block : (k : ℕ) → k < 4 → nat_lt k 4 ≡ true
    luma_block k lt = grind (arith, nat_tests)

-- whether it is its results alone
pub alone_is : (kinds : List BlockKind) (pattern block : ℕ) (coded : Bool) (place : BlockPlace) → place.block ≡ block → block < 4
    → coded ≡ is_coded pattern block
    → (coded && (kind_at kinds 0).intra) ≡ is_alone pattern (kind_at kinds 0) (kind_at kinds 1) place
alone_is kinds pattern block coded place same below told =
    let small : nat_lt place.block 4 ≡ true = is_less place.block 4 (omega (arith, same, below)) in
    let is : coded ≡ is_coded pattern place.block = told ∙ ap (is_coded pattern) (sym same) in
    (λ i. is i && (cond ((sym small) i) (kind_at kinds 0) (kind_at kinds 1)).intra)

-- one block more of luma
pub luma_more : (lists : List (List ℤ)) (kinds : List BlockKind) (pattern block : ℕ) (coded field : Bool) (old mid new : List ℕ) → block < 4
    → coded ≡ is_coded pattern block
    → ((r c : ℕ) → r < 16 → c < 16 → spot mid (16 * r + c)
    ≡ cond (nat_lt (block_of field Y r c).block block)
    (plus (is_alone pattern (kind_at kinds 0) (kind_at kinds 1) (block_of field Y r c)) (spot old (16 * r + c)) (residual lists pattern (kind_at kinds 0) (kind_at kinds 1) (block_of field Y r c))) (spot old (16 * r + c)))
    → ((k j : ℕ) → k < 8 → j < 8 → spot new (luma_place field block k + j)
    ≡ rebuilt coded (own_list lists block) (kind_at kinds 0) (8 * k + j) (spot mid (luma_place field block k + j)))
    → ((i : ℕ) → ((k j : ℕ) → k < 8 → j < 8 → i ≢ luma_place field block k + j) → spot new i ≡ spot mid i)
    → (r c : ℕ) → r < 16 → c < 16 → spot new (16 * r + c)
    ≡ cond (nat_lt (block_of field Y r c).block (block + 1))
    (plus (is_alone pattern (kind_at kinds 0) (kind_at kinds 1) (block_of field Y r c)) (spot old (16 * r + c)) (residual lists pattern (kind_at kinds 0) (kind_at kinds 1) (block_of field Y r c))) (spot old (16 * r + c))
luma_more lists kinds pattern block coded field old mid new below told before lines rest r c lt small =
    let place = block_of field Y r c in
    let difference = residual lists pattern (kind_at kinds 0) (kind_at kinds 1) place in
    let was = spot old (16 * r + c) in
    let alone = is_alone pattern (kind_at kinds 0) (kind_at kinds 1) place in
    let within = block_below field r c lt small in
    elim (cases_eq place.block block) [
      | inl here ↦
          let at_is : luma_place field block place.line + place.column ≡ 16 * r + c =
          ap (λ b. luma_place field b place.line + place.column) (sym here) ∙ place_again field r c lt small in
          let done : nat_lt place.block (block + 1) ≡ true = is_less place.block (block + 1) (omega arith) in
          let open_yet : nat_lt place.block block ≡ false = ap (λ b. nat_lt b block) here ∙ not_itself block in
          let untouched : spot mid (16 * r + c) ≡ was = before r c lt small ∙ ap (λ b. cond b (plus alone was difference) was) open_yet in
          let added = residual_is lists kinds pattern block coded place here below told in
          let is = alone_is kinds pattern block coded place here below told in
          ap (spot new) (sym at_is) ∙ lines place.line place.column within.1 within.2
          ∙ (λ i. plus (is i) ((ap (spot mid) at_is ∙ untouched) i) (added i))
          ∙ sym (ap (λ b. cond b (plus alone was difference) was) done)
      | inr other ↦
          rest (16 * r + c) (λ k j kk jj same. other (block_known field block k j r c below kk jj lt small same))
          ∙ before r c lt small ∙ ap (λ b. cond b (plus alone was difference) was) (one_more place.block block other)
    ]
  where
    not_itself : (k : ℕ) → nat_lt k k ≡ false
    not_itself k = grind (arith, nat_tests)

pub luma_none : (field : Bool) (old : List ℕ) (f : ℕ → ℕ → ℕ) (r c : ℕ)
    → spot old (16 * r + c) ≡ cond (nat_lt (block_of field Y r c).block 0) (f r c) (spot old (16 * r + c))
luma_none field old f r c = sym (ap (λ b. cond b (f r c) (spot old (16 * r + c))) (none (block_of field Y r c).block))
  where
    none : (k : ℕ) → nat_lt k 0 ≡ false
    none k = grind (arith, nat_tests)

-- at the end all blocks are in place
pub luma_all : (field : Bool) (new old : List ℕ) (f : ℕ → ℕ → ℕ) (n r c : ℕ) → r < 16 → c < 16 → 4 ≤ n
    → spot new (16 * r + c) ≡ cond (nat_lt (block_of field Y r c).block n) (f r c) (spot old (16 * r + c)) → spot new (16 * r + c) ≡ f r c
luma_all field new old f n r c lt small all so =
    so ∙ ap (λ b. cond b (f r c) (spot old (16 * r + c))) (is_less (block_of field Y r c).block n (omega (arith, (block_below field r c lt small).0)))
