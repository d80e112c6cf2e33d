-- Each picture that is sent has the exact delay behind the removals of those before it.
use Rattle.std.proofs.Common.{◌≡◌, ℕ, zero, suc, ◌+◌, ◌-◌, ◌<◌, ◌≤◌, ◌⊎◌, inl, inr, Bool, true, false, List, [], ◌∷◌, ◌++◌, length, map, refl, sym, ap, subst, ◌∙◌, arith, append_assoc}
use Rattle.std.proofs.lemmas.List.{append-nil}
use Rattle.m2v_plane.specs.Samples.{Samples}
use Rattle.m2v_set.specs.declared.settings.Settings.{Settings}
use Rattle.m2v_set.specs.Rules.{Passes}
use Rattle.m2v_vbv.specs.Annex.{Start, Removal}
use Rattle.m2v_order.specs.Groups.{Group}
use Rattle.m2v_rate.specs.Plans.{Entries, fresh, start_of}
use Rattle.m2v_rate.specs.Safety.{Picture, closed, group_removals, after_groups, sent}
use Rattle.m2v_enc_stream.specs.Streams.{Progress, at_start, book_of, group_coded, groups_begun}
use Rattle.m2v_enc_stream.proofs.Queues.{begun_more}
use Rattle.m2v_enc_stream.specs.Removals.{seen_of, groups_seen, groups_of, begun_by, removed_before}
use Rattle.m2v_enc_stream.specs.Sent.{SentPicture, removal_of, sent_at, group_sent, groups_sent, Sent, IsExact, AreExact}
use Rattle.m2v_enc_stream.proofs.Closed.{seen_length}
use Rattle.m2v_enc_stream.proofs.Delays.{IsPlaced, placed, delay_exact}
use Rattle.m2v_enc_stream.proofs.Bounds.{delay_small}
use Rattle.m2v_enc_stream.proofs.Flat.{group_more, group_is}

-- ---- lists

exact_append : (start : Start) (xs ys : List SentPicture) (before : List Removal) → AreExact start before xs → AreExact start (before ++ map removal_of xs) ys
    → AreExact start before (xs ++ ys)
exact_append start [] ys before first second = subst (λ (rs : List Removal). AreExact start rs ys) (append-nil before) second
exact_append start (x ∷ xs) ys before first second = (
  first.0,
  exact_append start xs ys (before ++ removal_of x ∷ []) first.1
      (subst (λ (rs : List Removal). AreExact start rs ys) (sym (append_assoc before (removal_of x ∷ []) (map removal_of xs))) second),
)

exact_push : (start : Start) (xs : List SentPicture) (x : SentPicture) (before : List Removal) → AreExact start before xs → IsExact start (before ++ map removal_of xs) x
    → AreExact start before (xs ++ x ∷ [])
exact_push start xs x before first last = exact_append start xs (x ∷ []) before first (last, tt)

-- ---- what is removed before a group

seen_more : (s : Settings) (gs : List (Group Samples)) (g : Group Samples) (x : Progress)
    → groups_seen s x (gs ++ g ∷ []) ≡ groups_seen s x gs ++ seen_of (book_of s (groups_begun s x gs) g) ∷ []
unfolding groups_seen groups_begun
seen_more s [] g x = refl
seen_more s (k ∷ gs) g x = ap (λ (ps : List (List Picture)). seen_of (book_of s x k) ∷ ps) (seen_more s gs g (group_coded s x k false))

sent_more : (l : Entries) (gs : List (List Picture)) (g : List Picture)
    → sent l (gs ++ g ∷ []) ≡ sent l gs ++ group_removals (closed (after_groups l gs) g) (length g)
unfolding sent after_groups
sent_more l [] g = append-nil (group_removals (closed l g) (length g))
sent_more l (k ∷ gs) g =
    let c = closed l k in
    ap (λ (rs : List Removal). group_removals c (length k) ++ rs) (sent_more c gs g)
    ∙ sym (append_assoc (group_removals c (length k)) (sent c gs) (group_removals (closed (after_groups c gs) g) (length g)))

-- ---- a group

-- what is removed before picture p, by the pictures that are sent
pub before_is : (s : Settings) (earlier : List (Group Samples)) (g : Group Samples) (ends : Bool) (p : ℕ) → p ≤ length g.pictures → (p < length g.pictures) ⊎ (ends ≡ false)
    → IsPlaced s earlier g
    → removed_before s earlier g p ≡ sent (fresh s) (groups_seen s (at_start s) earlier)
    ++ map removal_of (group_sent (book_of s (begun_by s earlier) g) ends (length (begun_by s earlier).text) p)
before_is s earlier g ends p le goes h =
    let b = book_of s (begun_by s earlier) g in
    let front = sent (fresh s) (groups_seen s (at_start s) earlier) in
    ap (λ (c : Entries). front ++ group_removals c p) h.closes
    ∙ ap (λ (rs : List Removal). front ++ rs) (sym (group_is b h.here.book ends (length (begun_by s earlier).text) p le goes))

one_exact : (s : Settings) (earlier : List (Group Samples)) (g : Group Samples) (ends : Bool) (more p : ℕ) → Passes s → p < length g.pictures → IsPlaced s earlier g
    → (let b = book_of s (begun_by s earlier) g in
    let at = length (begun_by s earlier).text in
    IsExact (start_of s) (sent (fresh s) (groups_seen s (at_start s) earlier) ++ map removal_of (group_sent b ends at p)) (sent_at b ends at more p))
one_exact s earlier g ends more p passes lt h =
    let b = book_of s (begun_by s earlier) g in
    let at = length (begun_by s earlier).text in
    let front = sent (fresh s) (groups_seen s (at_start s) earlier) in
    subst (λ (rs : List Removal). IsExact (start_of s) rs (sent_at b ends at more p)) (before_is s earlier g ends p (omega (arith, lt)) (inl lt) h)
    (delay_exact s earlier g ends p passes lt h, delay_small s earlier g ends p lt h)

group_exact : (s : Settings) (earlier : List (Group Samples)) (g : Group Samples) (ends : Bool) (n : ℕ) → Passes s → n ≤ length g.pictures → IsPlaced s earlier g
    → (let b = book_of s (begun_by s earlier) g in
    AreExact (start_of s) (sent (fresh s) (groups_seen s (at_start s) earlier)) (group_sent b ends (length (begun_by s earlier).text) n))
group_exact s earlier g ends zero passes le h = tt
group_exact s earlier g ends (suc n) passes le h =
    let b = book_of s (begun_by s earlier) g in
    let at = length (begun_by s earlier).text in
    let front = sent (fresh s) (groups_seen s (at_start s) earlier) in
    let e : n + 1 ≡ suc n = omega arith in
    subst (λ (k : ℕ). AreExact (start_of s) front (group_sent b ends at k)) e
    (subst (AreExact (start_of s) front) (sym (group_more b ends at n))
    (exact_push (start_of s) (group_sent b ends at n) (sent_at b ends at 0 n) front
    (group_exact s earlier g ends n passes (omega (arith, le)) h)
    (one_exact s earlier g ends 0 n passes (omega (arith, le)) h)))

-- ---- all groups

next_before : (s : Settings) (earlier : List (Group Samples)) (g : Group Samples) → IsPlaced s earlier g
    → (let b = book_of s (begun_by s earlier) g in
    sent (fresh s) (groups_seen s (at_start s) earlier) ++ map removal_of (group_sent b false (length (begun_by s earlier).text) (length g.pictures))
    ≡ sent (fresh s) (groups_seen s (at_start s) (earlier ++ g ∷ [])))
next_before s earlier g h =
    let b = book_of s (begun_by s earlier) g in
    let before = groups_seen s (at_start s) earlier in
    sym (before_is s earlier g false (length g.pictures) (omega arith) (inr refl) h)
    ∙ ap (λ (n : ℕ). sent (fresh s) before ++ group_removals (closed (after_groups (fresh s) before) (seen_of b)) n) (sym (seen_length b))
    ∙ sym (sent_more (fresh s) before (seen_of b))
    ∙ ap (sent (fresh s)) (sym (seen_more s earlier g (at_start s)))

module _ (s : Settings) (frames : List (List ℕ)) (passes : Passes s) (few : length frames ≤ 999999) where
  from_here : (gs earlier : List (Group Samples)) → groups_of s frames ≡ earlier ++ gs
      → AreExact (start_of s) (sent (fresh s) (groups_seen s (at_start s) earlier)) (groups_sent s (begun_by s earlier) gs)
  unfolding groups_sent
  from_here [] earlier is = tt
  from_here (g ∷ []) earlier is =
      let h = placed s frames earlier g [] passes few is in
      let b = book_of s (begun_by s earlier) g in
      let at = length (begun_by s earlier).text in
      let last = length g.pictures - 1 in
      let some = h.here.book.group.picture in
      exact_push (start_of s) (group_sent b true at last) (sent_at b true at 32 last) (sent (fresh s) (groups_seen s (at_start s) earlier))
      (group_exact s earlier g true last passes (omega arith) h)
      (one_exact s earlier g true 32 last passes (omega (arith, some)) h)
  from_here (g ∷ (k ∷ later)) earlier is =
      let h = placed s frames earlier g (k ∷ later) passes few is in
      let b = book_of s (begun_by s earlier) g in
      let at = length (begun_by s earlier).text in
      let front = sent (fresh s) (groups_seen s (at_start s) earlier) in
      let here = group_sent b false at (length g.pictures) in
      let rest = from_here (k ∷ later) (earlier ++ g ∷ []) (is ∙ sym (append_assoc earlier (g ∷ []) (k ∷ later))) in
      let same = subst (λ (y : Progress). AreExact (start_of s) (sent (fresh s) (groups_seen s (at_start s) (earlier ++ g ∷ []))) (groups_sent s y (k ∷ later)))
      (begun_more s earlier g (at_start s)) rest in
      exact_append (start_of s) here (groups_sent s (group_coded s (begun_by s earlier) g false) (k ∷ later)) front
      (group_exact s earlier g false (length g.pictures) passes (omega arith) h)
      (subst (λ (rs : List Removal). AreExact (start_of s) rs (groups_sent s (group_coded s (begun_by s earlier) g false) (k ∷ later)))
      (sym (next_before s earlier g h)) same)

  pub stream_exact : AreExact (start_of s) [] (Sent s frames)
  unfolding groups_begun groups_seen sent
  stream_exact = from_here (groups_of s frames) [] refl
