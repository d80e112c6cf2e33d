-- First and second fields take turns, and how many anchors stand before a picture of a group.
use Rattle.std.proofs.Common.{◌≡◌, ℕ, zero, suc, ◌+◌, ◌<◌, ◌≤◌, ◌⊎◌, inl, inr, Bool, true, false, not, ◌&&◌, cond, List, [], ◌∷◌, ◌++◌, length, take, drop, get_or, min, Option, Some, None, refl, sym, ap, subst, ◌∙◌, arith}
use Rattle.std.specs.Prelude.{nat_eq, if◌then◌else◌, count_by, is_some}
use Rattle.std.specs.List.{flat_map}
use Rattle.std.proofs.lemmas.Bool.{cases_Bool}
use Rattle.std.proofs.lemmas.List.Sums.{count_by_more_no, count_by_more_yes, sum_by-cons}
use Rattle.std.proofs.Math.Seq.{take-length}
use Rattle.m2v_set.specs.declared.settings.Scan.{Scan}
use Rattle.m2v_set.specs.declared.settings.Scan.TheVariants.{Progressive, Frames, Fields}
use Rattle.m2v_order.specs.declared.jobs.PictureJob.{PictureJob}
use Rattle.m2v_order.specs.Coding.{structures}
use Rattle.m2v_order.specs.Whole.{fields_of, anchors_without}
use Rattle.m2v_slice.specs.Books.{Book, no_job, job_at}
use Rattle.m2v_slice.specs.Conditions.{IsBook}
use Rattle.m2v_slice.proofs.Firsts.{first_kind}
use Rattle.m2v_model.specs.declared.state.FirstField.{FirstField}
use Rattle.m2v_model.specs.States.{one_anchor_more}
use Rattle.m2v_enc_stream.specs.States.{waiting_behind, anchors_behind}

-- ---- fields

-- the first field that waits behind the first n of these pictures
abbrev waits : List PictureJob → ℕ → Option FirstField
waits jobs zero = None
waits jobs (suc n) =
    if nat_eq (get_or jobs n no_job).structure 1
    then Some (record { kind = (get_or jobs n no_job).kind; structure = 1 })
    else None

-- a picture is a first field, a frame, or the second field of the one that waits
abbrev pub IsTurn : Option FirstField → PictureJob → Type 0
IsTurn w job =
    ((w ≡ None) × (job.structure ≡ 1))
    ⊎ (((w ≡ None) × (job.structure ≡ 3)) ⊎ ((w ≡ Some (record { kind = job.kind; structure = 1 })) × (job.structure ≡ 2)))

fields_turn : (heads : List PictureJob) (p : ℕ) → p < length (flat_map (fields_of Fields) heads)
    → IsTurn (waits (flat_map (fields_of Fields) heads) p) (get_or (flat_map (fields_of Fields) heads) p no_job)
unfolding structures
fields_turn [] p lt = absurd (omega (arith, lt))
fields_turn (h ∷ more) zero lt = inl (refl, refl)
fields_turn (h ∷ more) (suc zero) lt = inr (inr (refl, refl))
fields_turn (h ∷ more) (suc (suc zero)) lt = fields_turn more zero (omega (arith, lt))
fields_turn (h ∷ more) (suc (suc (suc p))) lt = fields_turn more (suc p) (omega (arith, lt))

frames_turn : (heads : List PictureJob) (p : ℕ) → p < length (flat_map (fields_of Frames) heads)
    → IsTurn (waits (flat_map (fields_of Frames) heads) p) (get_or (flat_map (fields_of Frames) heads) p no_job)
unfolding structures
frames_turn [] p lt = absurd (omega (arith, lt))
frames_turn (h ∷ more) zero lt = inr (inl (refl, refl))
frames_turn (h ∷ more) (suc zero) lt = frames_turn more zero (omega (arith, lt))
frames_turn (h ∷ more) (suc (suc p)) lt = frames_turn more (suc p) (omega (arith, lt))

pub same_scan : (heads : List PictureJob) → flat_map (fields_of Progressive) heads ≡ flat_map (fields_of Frames) heads
unfolding structures
same_scan heads = refl

scan_turn : (scan : Scan) (heads : List PictureJob) (p : ℕ) → p < length (flat_map (fields_of scan) heads)
    → IsTurn (waits (flat_map (fields_of scan) heads) p) (get_or (flat_map (fields_of scan) heads) p no_job)
scan_turn Progressive heads p lt =
    subst (λ (js : List PictureJob). p < length js → IsTurn (waits js p) (get_or js p no_job)) (sym (same_scan heads)) (frames_turn heads p) lt
scan_turn Frames heads p lt = frames_turn heads p lt
scan_turn Fields heads p lt = fields_turn heads p lt

fields_none : (heads : List PictureJob) → waits (flat_map (fields_of Fields) heads) (length (flat_map (fields_of Fields) heads)) ≡ None
unfolding structures
fields_none [] = refl
fields_none (h ∷ []) = refl
fields_none (h ∷ g ∷ more) = fields_none (g ∷ more)

frames_none : (heads : List PictureJob) → waits (flat_map (fields_of Frames) heads) (length (flat_map (fields_of Frames) heads)) ≡ None
unfolding structures
frames_none [] = refl
frames_none (h ∷ []) = refl
frames_none (h ∷ g ∷ more) = frames_none (g ∷ more)

scan_none : (scan : Scan) (heads : List PictureJob) → waits (flat_map (fields_of scan) heads) (length (flat_map (fields_of scan) heads)) ≡ None
scan_none Progressive heads = subst (λ (js : List PictureJob). waits js (length js) ≡ None) (sym (same_scan heads)) (frames_none heads)
scan_none Frames heads = frames_none heads
scan_none Fields heads = fields_none heads

waits_are : (b : Book) (p : ℕ) → waiting_behind b p ≡ waits b.pictures p
unfolding waiting_behind
waits_are b zero = refl
waits_are b (suc p) = refl

pub turn_at : (b : Book) → IsBook b → (p : ℕ) → p < length b.pictures → IsTurn (waiting_behind b p) (job_at b p)
turn_at b h p lt =
    subst (λ (w : Option FirstField). IsTurn w (job_at b p)) (sym (waits_are b p))
    (subst (λ (js : List PictureJob). p < length js → IsTurn (waits js p) (get_or js p no_job)) (sym h.group.fields) (scan_turn b.settings.scan h.group.heads p) lt)

-- behind a group no field waits
pub none_behind : (b : Book) → IsBook b → waiting_behind b (length b.pictures) ≡ None
none_behind b h =
    waits_are b (length b.pictures)
    ∙ subst (λ (js : List PictureJob). waits js (length js) ≡ None) (sym h.group.fields) (scan_none b.settings.scan h.group.heads)

-- ---- anchors

-- an anchor that ends its frame
abbrev counts : PictureJob → Bool
counts j = not (nat_eq j.kind 3) && not (nat_eq j.structure 1)

more_is : (a : ℕ) → a ≤ 2 → one_anchor_more a ≡ min 2 (a + 1)
more_is zero le = refl
more_is (suc zero) le = refl
more_is (suc (suc zero)) le = refl
more_is (suc (suc (suc a))) le = absurd (omega (arith, le))

stays : (x y : Bool) (a : ℕ) → (not x && not y) ≡ false → (if x then a else if y then a else one_anchor_more a) ≡ a
stays true y a e = refl
stays false true a e = refl
stays false false a e = absurd cc

rises : (x y : Bool) (a : ℕ) → (not x && not y) ≡ true → (if x then a else if y then a else one_anchor_more a) ≡ one_anchor_more a
rises true y a e = absurd cc
rises false true a e = absurd cc
rises false false a e = refl

anchors_next : (before : ℕ) (b : Book) (n : ℕ)
    → anchors_behind before b (suc n) ≡ (if nat_eq (job_at b n).kind 3 then anchors_behind before b n else if nat_eq (job_at b n).structure 1 then anchors_behind before b n else one_anchor_more (anchors_behind before b n))
unfolding anchors_behind
anchors_next before b n = refl

anchors_none : (before : ℕ) (b : Book) → anchors_behind before b 0 ≡ before
unfolding anchors_behind
anchors_none before b = refl

-- how many anchors were decoded
pub anchors_are : (before : ℕ) (b : Book) (n : ℕ) → before ≤ 2 → n ≤ length b.pictures → anchors_behind before b n ≡ min 2 (before + anchors_without 1 (take n b.pictures))
anchors_are before b zero le few = anchors_none before b ∙ (let e : before ≡ min 2 (before + 0) = omega (arith, le) in e)
anchors_are before b (suc n) le few =
    let here = anchors_are before b n le (omega (arith, few)) in
    let x = nat_eq (job_at b n).kind 3 in
    let y = nat_eq (job_at b n).structure 1 in
    let a = anchors_behind before b n in
    let next : n + 1 ≡ suc n = omega arith in
    elim (cases_Bool (counts (job_at b n))) [
      | inl more_one ↦
          let more : count_by counts (take (n + 1) b.pictures) ≡ count_by counts (take n b.pictures) + 1 = count_by_more_yes counts b.pictures n no_job (omega (arith, few)) more_one in
          let all : count_by counts (take (suc n) b.pictures) ≡ count_by counts (take n b.pictures) + 1 = ap (λ (k : ℕ). count_by counts (take k b.pictures)) (sym next) ∙ more in
          let small : a ≤ 2 = omega (arith, here) in
          anchors_next before b n ∙ rises x y a more_one ∙ more_is a small
          ∙ (let e : min 2 (a + 1) ≡ min 2 (before + count_by counts (take (suc n) b.pictures)) = omega (arith, here, all) in e)
      | inr none ↦
          let more : count_by counts (take (n + 1) b.pictures) ≡ count_by counts (take n b.pictures) = count_by_more_no counts b.pictures n no_job (omega (arith, few)) none in
          let all : count_by counts (take (suc n) b.pictures) ≡ count_by counts (take n b.pictures) = ap (λ (k : ℕ). count_by counts (take k b.pictures)) (sym next) ∙ more in
          anchors_next before b n ∙ stays x y a none
          ∙ (let e : a ≡ min 2 (before + count_by counts (take (suc n) b.pictures)) = omega (arith, here, all) in e)
    ]

-- ---- before a picture

split_at : {A : Type 0} (xs : List A) (i : ℕ) (d : A) → i < length xs → xs ≡ take i xs ++ get_or xs i d ∷ drop (suc i) xs
split_at [] i d lt = absurd (omega (arith, lt))
split_at (x ∷ xs) zero d lt = refl
split_at (x ∷ xs) (suc i) d lt = ap (λ (ys : List _). x ∷ ys) (split_at xs i d (omega (arith, lt)))

count_more : (x : PictureJob) (xs : List PictureJob) → anchors_without 1 (x ∷ xs) ≡ cond (counts x) 1 0 + anchors_without 1 xs
count_more x xs = sum_by-cons (λ (j : PictureJob). cond (counts j) 1 0) x xs

counted : (x : PictureJob) → x.kind ≡ 1 → nat_eq x.structure 1 ≡ false → cond {A = ℕ} (counts x) 1 0 ≡ 1
counted x e f = rw (e, f) refl

-- the pictures of an I frame have an anchor
frame_counts : (h : PictureJob) (xs : List PictureJob) → h.kind ≡ 1 → 1 ≤ anchors_without 1 (record h { structure = 3 } ∷ xs)
frame_counts h xs e = let x : PictureJob = record h { structure = 3 } in omega (arith, count_more x xs, counted x e refl)

fields_count : (h : PictureJob) (xs : List PictureJob) → h.kind ≡ 1 → 1 ≤ anchors_without 1 (record h { structure = 1 } ∷ record h { structure = 2 } ∷ xs)
fields_count h xs e =
    let x : PictureJob = record h { structure = 1 } in
    let y : PictureJob = record h { structure = 2 } in
    omega (arith, count_more x (y ∷ xs), count_more y xs, counted y e refl)

-- one anchor stands before a picture that isn't I
abbrev OneBefore : List PictureJob → ℕ → Type 0
OneBefore jobs p =
    (get_or jobs 0 no_job).kind ≡ 1 → p < length jobs → ((get_or jobs p no_job).kind ≡ 1 → ⊥) → 1 ≤ anchors_without 1 (take p jobs)

frames_before : (heads : List PictureJob) (p : ℕ) → OneBefore (flat_map (fields_of Frames) heads) p
unfolding structures
frames_before [] p e lt n = absurd (omega (arith, lt))
frames_before (h ∷ more) zero e lt n = absurd (n e)
frames_before (h ∷ more) (suc p) e lt n = frame_counts h (take p (flat_map (fields_of Frames) more)) e

fields_before : (heads : List PictureJob) (p : ℕ) → OneBefore (flat_map (fields_of Fields) heads) p
unfolding structures
fields_before [] p e lt n = absurd (omega (arith, lt))
fields_before (h ∷ more) zero e lt n = absurd (n e)
fields_before (h ∷ more) (suc zero) e lt n = absurd (n e)
fields_before (h ∷ more) (suc (suc p)) e lt n = fields_count h (take p (flat_map (fields_of Fields) more)) e

scan_before : (scan : Scan) (heads : List PictureJob) (p : ℕ) → OneBefore (flat_map (fields_of scan) heads) p
scan_before Progressive heads p = subst (λ (js : List PictureJob). OneBefore js p) (sym (same_scan heads)) (frames_before heads p)
scan_before Frames heads p = frames_before heads p
scan_before Fields heads p = fields_before heads p

pub one_before : (b : Book) → IsBook b → (p : ℕ) → p < length b.pictures → ((job_at b p).kind ≡ 1 → ⊥) → 1 ≤ anchors_without 1 (take p b.pictures)
one_before b h p lt n = subst (λ (js : List PictureJob). OneBefore js p) (sym h.group.fields) (scan_before b.settings.scan h.group.heads p) (first_kind b h) lt n

-- what was decoded before a group: no anchor but where the group has none before it
pub record IsCounted (b : Book) (before : ℕ) : Type 0 where
  pub most : before ≤ 2
  pub some : is_some b.before ≡ true → 1 ≤ before

-- a P picture has an anchor
pub anchor_before_p : (b : Book) → IsBook b → (before p : ℕ) → IsCounted b before → p < length b.pictures → ((job_at b p).kind ≡ 1 → ⊥) → 1 ≤ anchors_behind before b p
anchor_before_p b h before p c lt n =
    let one = one_before b h p lt n in
    let are = anchors_are before b p c.most (omega (arith, lt)) in
    omega (arith, one, are)

none_or : {A : Type 0} (o : Option A) → (o ≡ None) ⊎ (is_some o ≡ true)
none_or None = inl refl
none_or (Some x) = inr refl

-- a B picture has two
pub anchors_before_b : (b : Book) → IsBook b → (before p : ℕ) → IsCounted b before → p < length b.pictures → (job_at b p).kind ≡ 3 → 2 ≤ anchors_behind before b p
anchors_before_b b h before p c lt e =
    let are = anchors_are before b p c.most (omega (arith, lt)) in
    elim (none_or h.last) [
      | inl none ↦
          let two = (h.group.following none (take p b.pictures) (job_at b p) (drop (suc p) b.pictures) (split_at b.pictures p no_job lt) e).1 in
          omega (arith, are, two)
      | inr some ↦
          let one = one_before b h p lt (λ f. omega (arith, e, f)) in
          let before_one = c.some (h.before ∙ some) in
          omega (arith, are, one, before_one)
    ]

-- a whole group has an anchor
abbrev HasSome : List PictureJob → Type 0
HasSome jobs = (get_or jobs 0 no_job).kind ≡ 1 → 0 < length jobs → 1 ≤ anchors_without 1 jobs

frames_some : (heads : List PictureJob) → HasSome (flat_map (fields_of Frames) heads)
unfolding structures
frames_some [] e lt = absurd (omega (arith, lt))
frames_some (h ∷ more) e lt = frame_counts h (flat_map (fields_of Frames) more) e

fields_some : (heads : List PictureJob) → HasSome (flat_map (fields_of Fields) heads)
unfolding structures
fields_some [] e lt = absurd (omega (arith, lt))
fields_some (h ∷ more) e lt = fields_count h (flat_map (fields_of Fields) more) e

scan_some : (scan : Scan) (heads : List PictureJob) → HasSome (flat_map (fields_of scan) heads)
scan_some Progressive heads = subst HasSome (sym (same_scan heads)) (frames_some heads)
scan_some Frames heads = frames_some heads
scan_some Fields heads = fields_some heads

-- how many anchors stand behind a group
pub anchors_end : (b : Book) → IsBook b → (before : ℕ) → IsCounted b before → (1 ≤ anchors_behind before b (length b.pictures)) × (anchors_behind before b (length b.pictures) ≤ 2)
anchors_end b h before c =
    let some = h.group.picture in
    let one = subst HasSome (sym h.group.fields) (scan_some b.settings.scan h.group.heads) (first_kind b h) (omega (arith, some)) in
    let all : anchors_without 1 (take (length b.pictures) b.pictures) ≡ anchors_without 1 b.pictures = ap (anchors_without 1) (take-length b.pictures) in
    let are = anchors_are before b (length b.pictures) c.most (omega arith) in
    (omega (arith, one, all, are), omega (arith, are))
