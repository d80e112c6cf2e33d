-- A coded stream as its buffer's account sees it: groups of pictures, each with its size and its plan.
use Rattle.std.specs.Prelude.{ℕ, ◌≡◌, ◌+◌, ◌-◌, ◌*◌, ◌≤◌, ◌<◌, List, [], ◌∷◌, ◌++◌, All, length, map, slice_index, slice_index_or}
use Rattle.std.specs.List.{range_with_len}
use Rattle.m2v_set.specs.Numbers.{buffer_bits, least_of, IsInterval}
use Rattle.m2v_vbv.specs.Annex.{Removal}
use Rattle.m2v_vbv.specs.Account.{stuffing_of}
use Rattle.m2v_rate.specs.declared.values.Plan.{Plan}
use Rattle.m2v_rate.specs.Plans.{Entries, account_at, Low, plan_of, begun}

-- a picture: its type, the time behind it, its activity, its bits with its headers, without the zero bytes and an end code
-- behind it, its work, and its plan
pub record Picture : Type 0 where
  pub kind : ℕ
  pub interval : ℕ
  pub activity : ℕ
  pub size : ℕ
  pub work : ℕ
  pub plan : Plan

-- the ledger once each picture of its next group is planned and known
abbrev pub closed : Entries → List Picture → Entries
closed l g =
    record (begun l (map (λ (x : Picture). x.kind) g) (map (λ (x : Picture). x.interval) g)
    (map (λ (x : Picture). x.activity) g)) {
      sizes = map (λ (x : Picture). x.size) g;
      works = map (λ (x : Picture). x.work) g;
      quantisers = map (λ (x : Picture). x.plan.q) g;
      caps = map (λ (x : Picture). x.plan.cap) g;
      targets = map (λ (x : Picture). x.plan.target) g;
    }

-- a group is coded by its plans: each picture has the plan that the ledger gives, which sees no size or work of the three
-- pictures before it, and is 32 bits below its cap, which an end code may take
pub record IsCoded (l : Entries) (g : List Picture) : Type 0 where
  pub some : 1 ≤ length g
  pub times : All (λ (x : Picture). IsInterval l.settings x.interval) g
  pub plans : (p : ℕ) (d : Picture) → p < length g → (slice_index_or g p d).plan ≡ plan_of (closed l g) p
  pub sizes : All (λ (x : Picture). x.size + 32 ≤ x.plan.cap) g

-- groups one after another
abbrev pub AreCoded : Entries → List (List Picture) → Type 0
AreCoded l [] = Unit {0}
AreCoded l (g ∷ gs) = IsCoded l g × AreCoded (closed l g) gs

-- picture j of a group as it leaves the buffer, with the fewest zero bytes behind it
abbrev pub removal_at : Entries → ℕ → Removal
removal_at c j =
    let size = slice_index c.sizes j in
    let units = slice_index c.intervals j in
    record { bits = size + stuffing_of (account_at c j) size units; units = units }

-- the last picture of all, with an end code
abbrev pub ending_at : Entries → ℕ → Removal
ending_at c j = record { bits = slice_index c.sizes j + 32; units = slice_index c.intervals j }

abbrev pub group_removals : Entries → ℕ → List Removal
group_removals c n = map (removal_at c) (range_with_len 0 n)

-- the pictures of all groups in decoding order
unfoldable pub removals : Entries → List (List Picture) → List Removal
removals l [] = []
removals l (g ∷ []) = group_removals (closed l g) (length g - 1) ++ ending_at (closed l g) (length g - 1) ∷ []
removals l (g ∷ (h ∷ gs)) = group_removals (closed l g) (length g) ++ removals (closed l g) (h ∷ gs)

-- ---- what is kept on the way

-- the ledger once these groups are coded
unfoldable pub after_groups : Entries → List (List Picture) → Entries
after_groups l [] = l
after_groups l (g ∷ gs) = after_groups (closed l g) gs

-- their pictures, each with its zero bytes
unfoldable pub sent : Entries → List (List Picture) → List Removal
sent l [] = []
sent l (g ∷ gs) = group_removals (closed l g) (length g) ++ sent (closed l g) gs

-- what every picture of a group that is coded keeps: what its plan knows to be held at least is held, and is an emergency
-- picture at least; its cap lies within it, with room for an emergency picture, and its size with an end code within its
-- cap; the buffer takes what is held at it and behind it, and where zero bytes are sent, one byte less would be too few
pub record Keeps (c : Entries) (p : ℕ) : Type 0 where
  pub least : 1800 * least_of c.settings ≤ Low c p
  pub low : Low c p ≤ (account_at c p).held
  pub cap : 1800 * slice_index c.caps p ≤ Low c p
  pub room : least_of c.settings ≤ slice_index c.caps p
  pub size : slice_index c.sizes p + 32 ≤ slice_index c.caps p
  pub whole : 1800 * (removal_at c p).bits ≤ (account_at c p).held
  pub most : (account_at c p).held ≤ 1800 * buffer_bits c.settings
  pub next : (account_at c (p + 1)).held ≤ 1800 * buffer_bits c.settings
  pub zeros : 0 < stuffing_of (account_at c p) (slice_index c.sizes p) (slice_index c.intervals p)
      → 1800 * (buffer_bits c.settings - 8) < (account_at c (p + 1)).held
