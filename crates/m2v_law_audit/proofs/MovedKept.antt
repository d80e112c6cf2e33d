-- What is kept of a sequence that stands further on: its frames that wait for their place, and its account; and what both tell.
use Rattle.std.proofs.Common.{◌≡◌, ℕ, ◌+◌, ◌*◌, Bool, true, false, List, [], ◌∷◌, ◌++◌, Option, Some, None, refl, sym, ap, ◌∙◌}
use Rattle.std.specs.Prelude.{◌%◌, nat_eq, map, if◌then◌else◌}
use Rattle.std.specs.List.{zip}
use Rattle.std.specs.Option.{option_map, option_to_list}
use Rattle.std.proofs.lemmas.List.{map-append}
use Rattle.m2v_vbv.specs.declared.removed.Removed.{Removed}
use Rattle.m2v_vbv.specs.Buffer.{Buffer, Picture, left, told, next, tells}
use Rattle.m2v_model.specs.declared.state.Sequence.{Sequence}
use Rattle.m2v_model.specs.declared.notes.PictureNote.{PictureNote}
use Rattle.m2v_audit.specs.declared.account.Due.{Due}
use Rattle.m2v_audit.specs.declared.places.Misplaced.{Misplaced}
use Rattle.m2v_audit.specs.declared.places.Places.{Places}
use Rattle.m2v_audit.specs.declared.places.Waiting.{Waiting}
use Rattle.m2v_audit.specs.declared.places.WaitingFrame.{WaitingFrame}
use Rattle.m2v_audit.specs.Account.{Account, Told, picture_of, pictures, all_told, opened, with_picture as account_with, with_more as account_more, longer, untold, last_bits, settles, settled_of, behind_settled, settled, after_settled, ended as all_left}
use Rattle.m2v_audit.specs.Auditing.{opened_by, account_by}
use Rattle.m2v_audit.specs.Opening.{first_buffer}
use Rattle.m2v_audit.specs.Places.{misplaced, field_misplaced, anchor_misplaced, some_waits, waiting_in, is_shown, with_frame, told_with_frame, told_at_close}
use Rattle.m2v_law_audit.proofs.MovedReports.{misplaced_on, maybe_on, due_on, told_on, note_on}

-- ---- frames that wait for their place

abbrev pub waiting_on : ℕ → Waiting → Waiting
waiting_on k w = record w { bit = w.bit + 8 * k }

abbrev pub frame_on : ℕ → WaitingFrame → WaitingFrame
frame_on k f = record { first = option_map (waiting_on k) f.first; last = waiting_on k f.last }

abbrev pub places_on : ℕ → Places → Places
places_on k o = record o { begun = option_map (waiting_on k) o.begun; anchor = option_map (frame_on k) o.anchor }

module _ (k : ℕ) where
  told_or_none : (b : Bool) (m : Misplaced) → (if b then None else Some (misplaced_on k m)) ≡ maybe_on k (if b then None else Some m)
  told_or_none true m = refl
  told_or_none false m = refl

  one_on : (p : Waiting) (place : ℕ) → misplaced (waiting_on k p) place ≡ maybe_on k (misplaced p place)
  one_on p place = told_or_none (nat_eq p.reference (place % 1024)) (record { number = p.number; bit = p.bit; have = p.reference; need = place % 1024 })

  field_on : (p : Option Waiting) (place : ℕ) → field_misplaced (option_map (waiting_on k) p) place ≡ maybe_on k (field_misplaced p place)
  field_on None place = refl
  field_on (Some p) place = one_on p place

  anchor_on : (f : Option WaitingFrame) (place : ℕ) → anchor_misplaced (option_map (frame_on k) f) place ≡ map (maybe_on k) (anchor_misplaced f place)
  anchor_on None place = refl
  anchor_on (Some f) place =
      ap (λ (m : Option Misplaced). m ∷ misplaced (waiting_on k f.last) place ∷ []) (field_on f.first place)
      ∙ ap (λ (m : Option Misplaced). maybe_on k (field_misplaced f.first place) ∷ m ∷ []) (one_on f.last place)

  shown_on : (b : Bool) (xs ys us vs : List (Option Misplaced)) → xs ≡ map (maybe_on k) us → ys ≡ map (maybe_on k) vs → (if b then xs else ys) ≡ map (maybe_on k) (if b then us else vs)
  shown_on true xs ys us vs e f = e
  shown_on false xs ys us vs e f = f

  -- what is told of a frame, and of an anchor before it
  pub frame_told : (o : Places) (p : Waiting) (b : Bool) → told_with_frame (places_on k o) (waiting_on k p) b ≡ map (maybe_on k) (told_with_frame o p b)
  frame_told o p b =
      shown_on (is_shown o b) _ _ _ _ (anchor_on (Some (record { first = o.begun; last = p })) o.shown) (anchor_on o.anchor o.shown)

  waits_on : (f : Option WaitingFrame) → some_waits (option_map (frame_on k) f) ≡ some_waits f
  waits_on None = refl
  waits_on (Some f) = refl

  frame_chosen : (b : Bool) (x y u v : Places) → x ≡ places_on k u → y ≡ places_on k v → (if b then x else y) ≡ places_on k (if b then u else v)
  frame_chosen true x y u v e f = e
  frame_chosen false x y u v e f = f

  pub frame_kept : (o : Places) (p : Waiting) (b : Bool) → with_frame (places_on k o) (waiting_on k p) b ≡ places_on k (with_frame o p b)
  frame_kept o p b =
      let f : WaitingFrame = record { first = o.begun; last = p } in
      frame_chosen (is_shown o b) _ _
      (record o { begun = None; shown = o.shown + 1 })
      (record o { begun = None; shown = o.shown + waiting_in o; anchor = Some f })
      refl
      (ap (λ (m : ℕ). record o { begun = None; shown = o.shown + m; anchor = Some (frame_on k f) }) (waits_on o.anchor))

  -- what is told when a group ends
  pub close_told : (o : Places) → told_at_close (places_on k o) ≡ map (maybe_on k) (told_at_close o)
  close_told o =
      ap (λ (l : List (Option Misplaced)). l ++ field_misplaced (option_map (waiting_on k) o.begun) (o.shown + some_waits (option_map (frame_on k) o.anchor)) ∷ []) (anchor_on o.anchor o.shown)
      ∙ ap (λ (m : ℕ). map (maybe_on k) (anchor_misplaced o.anchor o.shown) ++ field_misplaced (option_map (waiting_on k) o.begun) (o.shown + m) ∷ []) (waits_on o.anchor)
      ∙ ap (λ (m : Option Misplaced). map (maybe_on k) (anchor_misplaced o.anchor o.shown) ++ m ∷ []) (field_on o.begun (o.shown + waiting_in o))
      ∙ sym (map-append (maybe_on k) (anchor_misplaced o.anchor o.shown) (field_misplaced o.begun (o.shown + waiting_in o) ∷ []))

-- ---- the account

abbrev pub account_on : ℕ → Account → Account
account_on k x = record x { waiting = map (due_on k) x.waiting; last = option_map (due_on k) x.last }

module _ (k : ℕ) where
  pictures_on : (ds : List Due) → pictures (map (due_on k) ds) ≡ pictures ds
  pictures_on [] = refl
  pictures_on (d ∷ ds) = ap (λ (ps : List Picture). picture_of d ∷ ps) (pictures_on ds)

  last_on : (d : Option Due) → last_bits (option_map (due_on k) d) ≡ last_bits d
  last_on None = refl
  last_on (Some d) = refl

  list_on : (d : Option Due) → option_to_list (option_map (due_on k) d) ≡ map (due_on k) (option_to_list d)
  list_on None = refl
  list_on (Some d) = refl

  -- those that wait, and then the last one
  all_on : (ds : List Due) (d : Option Due) → map (due_on k) ds ++ option_to_list (option_map (due_on k) d) ≡ map (due_on k) (ds ++ option_to_list d)
  all_on ds d = ap (λ (l : List Due). map (due_on k) ds ++ l) (list_on d) ∙ sym (map-append (due_on k) ds (option_to_list d))

  told_more : (b : Bool) (t : Told) (xs ys : List Told) → xs ≡ map (told_on k) ys → (if b then told_on k t ∷ xs else []) ≡ map (told_on k) (if b then t ∷ ys else [])
  told_more true t xs ys e = ap (λ (l : List Told). told_on k t ∷ l) e
  told_more false t xs ys e = refl

  settled_on : (b : Buffer) (ds : List Due) (n : ℕ) → settled_of b (map (due_on k) ds) n ≡ map (told_on k) (settled_of b ds n)
  unfolding settled_of
  settled_on b [] n = refl
  settled_on b (d ∷ ds) n =
      let bits : ℕ = left (pictures (d ∷ ds)) n in
      ap (λ (m : ℕ). if settles b m then (due_on k d, told b (picture_of d) m) ∷ settled_of (next b (picture_of d) m) (map (due_on k) ds) n else [])
      (ap (λ (ps : List Picture). left (picture_of d ∷ ps) n) (pictures_on ds))
      ∙ told_more (settles b bits) (d, told b (picture_of d) bits) _ _ (settled_on (next b (picture_of d) bits) ds n)

  abbrev behind_on : Buffer × List Due → Buffer × List Due
  behind_on x = (x.0, map (due_on k) x.1)

  behind_more : (c : Bool) (b : Buffer) (ds : List Due) (x y : Buffer × List Due) → x ≡ behind_on y → (if c then x else (b, map (due_on k) ds)) ≡ behind_on (if c then y else (b, ds))
  behind_more true b ds x y e = e
  behind_more false b ds x y e = refl

  settled_behind : (b : Buffer) (ds : List Due) (n : ℕ) → behind_settled b (map (due_on k) ds) n ≡ behind_on (behind_settled b ds n)
  unfolding behind_settled
  settled_behind b [] n = refl
  settled_behind b (d ∷ ds) n =
      let bits : ℕ = left (pictures (d ∷ ds)) n in
      ap (λ (m : ℕ). if settles b m then behind_settled (next b (picture_of d) m) (map (due_on k) ds) n else (b, due_on k d ∷ map (due_on k) ds))
      (ap (λ (ps : List Picture). left (picture_of d ∷ ps) n) (pictures_on ds))
      ∙ behind_more (settles b bits) b (d ∷ ds) _ _ (settled_behind (next b (picture_of d) bits) ds n)

  -- the removals that are settled, and the account behind them
  pub settled_same : (x : Account) → settled (account_on k x) ≡ map (told_on k) (settled x)
  settled_same x = settled_on x.buffer x.waiting (last_bits (option_map (due_on k) x.last)) ∙ ap (λ (n : ℕ). map (told_on k) (settled_of x.buffer x.waiting n)) (last_on x.last)

  pub after_same : (x : Account) → after_settled (account_on k x) ≡ account_on k (after_settled x)
  after_same x =
      ap (λ (y : Buffer × List Due). record (account_on k x) { buffer = y.0; waiting = y.1 })
      (settled_behind x.buffer x.waiting (last_bits (option_map (due_on k) x.last)) ∙ ap (λ (n : ℕ). behind_on (behind_settled x.buffer x.waiting n)) (last_on x.last))

  zip_on : (ds : List Due) (ts : List Removed) → zip (map (due_on k) ds) ts ≡ map (told_on k) (zip ds ts)
  zip_on [] ts = refl
  zip_on (d ∷ ds) [] = refl
  zip_on (d ∷ ds) (t ∷ ts) = ap (λ (l : List Told). (due_on k d, t) ∷ l) (zip_on ds ts)

  -- those that are left at the end
  pub left_same : (x : Account) → all_left (account_on k x) ≡ map (told_on k) (all_left x)
  left_same x =
      ap (all_told x.buffer) (all_on x.waiting x.last)
      ∙ ap (λ (ps : List Picture). zip (map (due_on k) (untold x)) (tells x.buffer ps 0)) (pictures_on (untold x))
      ∙ zip_on (untold x) (tells x.buffer (pictures (untold x)) 0)

  -- another picture
  with_same : (x : Account) (d : Due) → account_with (account_on k x) (due_on k d) ≡ account_on k (account_with x d)
  with_same x d = ap (λ (l : List Due). record (account_on k (account_with x d)) { waiting = l }) (all_on x.waiting x.last)

  longer_on : (n : ℕ) (d : Option Due) → option_map (longer n) (option_map (due_on k) d) ≡ option_map (due_on k) (option_map (longer n) d)
  longer_on n None = refl
  longer_on n (Some d) = refl

  -- more bits of the last picture
  pub more_same : (x : Option Account) (n : ℕ) → option_map (λ (y : Account). account_more y n) (option_map (account_on k) x) ≡ option_map (account_on k) (option_map (λ (y : Account). account_more y n) x)
  more_same None n = refl
  more_same (Some x) n = ap (λ (d : Option Due). Some (record (account_on k (account_more x n)) { last = d })) (longer_on n x.last)

  buffer_on : (b : Option Buffer) (d : Due) → option_map (λ (y : Buffer). opened y (due_on k d)) b ≡ option_map (account_on k) (option_map (λ (y : Buffer). opened y d) b)
  buffer_on None d = refl
  buffer_on (Some b) d = refl

  opened_on : (first : Option Sequence) (n : PictureNote) (d : Due) → opened_by first (note_on k n) (due_on k d) ≡ option_map (account_on k) (opened_by first n d)
  opened_on None n d = refl
  opened_on (Some s) n d = buffer_on (first_buffer s n d.code_bits) d

  first_on : (b : Bool) (x y : Option Account) → x ≡ option_map (account_on k) y → (if b then x else None) ≡ option_map (account_on k) (if b then y else None)
  first_on true x y e = e
  first_on false x y e = refl

  -- the account with a picture
  pub account_same : (x : Option Account) (first : Option Sequence) (n : PictureNote) (d : Due) → account_by (option_map (account_on k) x) first (note_on k n) (due_on k d) ≡ option_map (account_on k) (account_by x first n d)
  account_same None first n d = first_on (nat_eq d.number 0) _ _ (opened_on first n d)
  account_same (Some x) first n d = ap (λ (y : Account). Some y) (with_same x d)
