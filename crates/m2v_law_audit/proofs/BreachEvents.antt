-- What is told of events one after another, of each as soon as it is known: as often as the verifier's rules are broken.
use Rattle.std.proofs.Common.{◌≡◌, ℕ, zero, suc, ◌+◌, ◌-◌, ◌<◌, Bool, true, false, List, [], ◌∷◌, ◌++◌, Option, Some, None, refl, sym, ap, subst, ◌∙◌, append_assoc, arith}
use Rattle.std.specs.Prelude.{if◌then◌else◌, nat_eq, not}
use Rattle.std.specs.List.{flat_map}
use Rattle.std.proofs.lemmas.Bool.{eqb-true}
use Rattle.std.proofs.lemmas.List.{append-nil}
use Rattle.m2v_model.specs.declared.state.Sequence.{Sequence}
use Rattle.m2v_model.specs.declared.notes.PictureNote.{PictureNote}
use Rattle.m2v_model.specs.States.{is_b}
use Rattle.m2v_model.specs.Pictures.{Picture, Pictures, Event, Events, sequence_header, group_header, coded_picture, pictures_in}
use Rattle.m2v_model.specs.PieceNotes.{note_of}
use Rattle.m2v_model.specs.Lawful.{Breach, Breaches, Numbered, numbered, all_numbered, is_variable, frames_of_group, sequences_in, sequence_breaches, picture_breaches, breaches, horizontal_rule, vertical_rule, intra_rule, crowd_rule, repeat_rule, progressive_rule, precision_rule}
use Rattle.m2v_audit.specs.m2v_check.declared.coded.CodedPicture.{CodedPicture}
use Rattle.m2v_audit.specs.m2v_check.Breaking.{numbered_of}
use Rattle.m2v_audit.specs.m2v_check.Running.{ends_frame}
use Rattle.m2v_audit.specs.m2v_check.Laws.{Alternates}
use Rattle.m2v_audit.specs.declared.places.Places.{Places}
use Rattle.m2v_audit.specs.HeaderRecords.{waiting_of}
use Rattle.m2v_audit.specs.Places.{no_places, with_field, with_frame, told_with_frame, group_closed, told_at_close}
use Rattle.m2v_law_audit.proofs.BreachCounts.{many, many_none, many-append, place_breaches, other_rules, waits_as, one_header}
use Rattle.m2v_law_audit.proofs.BreachPlaces.{Counted, ended, group_ended, counted_none, with_first, with_whole}

-- ---- what is kept of a sequence for its rules

pub record Kept : Type 0 where
  -- the last sequence header
  pub sequence : Option Sequence
  -- a group header came, and no picture after it
  pub first_in_group : Bool
  pub pictures : ℕ
  -- the first vbv_delay doesn't say that the rate is variable
  pub constant : Bool
  pub places : Places

-- nothing came yet
abbrev pub at_first : Bool → Kept
at_first low = record { sequence = None; first_in_group = false; pictures = 0; constant = true; places = no_places low }

-- an event, with the bit where the start code of the picture in its piece ends
abbrev pub Marked : Type 0
Marked = List (ℕ × Event)

abbrev pub plain : Marked → Events
plain [] = []
plain (x ∷ xs) = x.1 ∷ plain xs

abbrev pub marked : ℕ → Events → Marked
marked end [] = []
marked end (e ∷ es) = (end, e) ∷ marked end es

-- a picture that comes next
abbrev pub coming : Kept → Sequence → PictureNote → CodedPicture
coming k s n = record { number = k.pictures; sequence = s; first_in_group = k.first_in_group; note = n }

abbrev pub rate_behind : Kept → CodedPicture → Bool
rate_behind k p = if nat_eq p.number 0 then not (nat_eq p.note.info.vbv_delay 65535) else k.constant

abbrev pub places_behind : Places → CodedPicture → Places
places_behind o p = if ends_frame p.note then with_frame o (waiting_of p) (is_b p.note.info.kind) else with_field o (waiting_of p)

abbrev pub with_coded : Kept → CodedPicture → Kept
with_coded k p = record { sequence = k.sequence; first_in_group = false; pictures = k.pictures + 1; constant = rate_behind k p; places = places_behind k.places p }

-- a picture counts behind a sequence header
abbrev pub with_note : Kept → Option Sequence → PictureNote → Kept
with_note k None n = k
with_note k (Some s) n = with_coded k (coming k s n)

abbrev pub with_event : Kept → ℕ × Event → Kept
with_event k (end, sequence_header s) = record k { sequence = Some s }
with_event k (end, group_header g) = record k { first_in_group = true; places = group_closed k.places }
with_event k (end, coded_picture p) = with_note k k.sequence (note_of end p)

-- ---- what is told of them

abbrev pub places_told : Places → CodedPicture → Breaches
places_told o p = if ends_frame p.note then place_breaches (told_with_frame o (waiting_of p) (is_b p.note.info.kind)) else []

abbrev pub coded_told : Kept → CodedPicture → Breaches
coded_told k p = other_rules (rate_behind k p) (numbered_of p) ++ places_told k.places p

abbrev pub note_told : Kept → Option Sequence → PictureNote → Breaches
note_told k None n = []
note_told k (Some s) n = coded_told k (coming k s n)

abbrev pub event_told : Kept → ℕ × Event → Breaches
event_told k (end, sequence_header s) = sequence_breaches (s ∷ [])
event_told k (end, group_header g) = place_breaches (told_at_close k.places)
event_told k (end, coded_picture p) = note_told k k.sequence (note_of end p)

-- of the events from here on, and at their end
unfoldable pub told : Kept → Marked → Breaches
told k [] = place_breaches (told_at_close k.places)
told k (x ∷ xs) = event_told k x ++ told (with_event k x) xs

-- ---- as many are told as are broken

-- the picture in the words of the verifier
abbrev picture_at : Sequence → ℕ → Bool → ℕ → ℕ → Picture → Numbered
picture_at s g first number f p = record { number = number; sequence = s; group = g; first_in_group = first; frame = f; picture = p }

-- whether the rate is constant, by the first picture that comes or came
record IsRate (c : Bool) (number : ℕ) (constant : Bool) (ns : List Numbered) : Type 0 where
  first : number ≡ 0 → not (is_variable ns) ≡ c
  later : 0 < number → constant ≡ c

some_is : (n : ℕ) → nat_eq n 0 ≡ false → 0 < n
some_is zero e = let t : true ≡ false = e in absurd cc
some_is (suc n) e = omega arith

rate_by : (c : Bool) (s : Sequence) (g : ℕ) (first : Bool) (number f : ℕ) (constant : Bool) (p : Picture) (ns : List Numbered) (b : Bool) → nat_eq number 0 ≡ b → IsRate c number constant (picture_at s g first number f p ∷ ns)
    → (if nat_eq number 0 then not (nat_eq p.info.vbv_delay 65535) else constant) ≡ c
rate_by c s g first number f constant p ns true e h = rw e (h.first (eqb-true number 0 e))
rate_by c s g first number f constant p ns false e h = rw e (h.later (some_is number e))

none_left : (g : ℕ) → frames_of_group g [] ≡ []
unfolding frames_of_group
none_left g = refl

alternates_alone : (waits : Bool) (ps : Pictures) → Alternates waits ps → Alternates false ps
alternates_alone waits [] a = tt
alternates_alone waits (p ∷ ps) a = (a.0, λ e. refl, a.2)

-- behind a sequence header
abbrev behind : Sequence → Bool → ℕ → Bool → Places → Kept
behind s first number constant o = record { sequence = Some s; first_in_group = first; pictures = number; constant = constant; places = o }

module _ (asks : Breach → Bool) (low c : Bool) where
  -- as many are told from here on, and were told of the pictures before, as break the rules
  abbrev All : Kept → ℕ → Marked → List Numbered → List Numbered → Type 0
  All k t xs done ns =
      many asks (told k xs) + t ≡ many asks (sequence_breaches (sequences_in (plain xs))) + many asks (flat_map (picture_breaches low c (done ++ ns)) (done ++ ns))

  all_ended : (k : Kept) (done : List Numbered) (g f : ℕ) (waits : Bool) (t : ℕ) → Counted asks low c done g f waits k.places t → All k t [] done []
  unfolding told many
  all_ended k done g f waits t j =
      let e = ended asks low c done g f waits k.places t j [] (λ h lt. none_left h) (none_left g) in
      let all : many asks (flat_map (picture_breaches low c (done ++ [])) (done ++ [])) ≡ many asks (flat_map (picture_breaches low c (done ++ [])) done) = ap (λ (l : List Numbered). many asks (flat_map (picture_breaches low c (done ++ [])) l)) (append-nil done) in
      omega (arith, e, all)

  rules_same : (c' first : Bool) (s : Sequence) (g number f end : ℕ) (p : Picture) → other_rules c' (numbered_of (record { number = number; sequence = s; first_in_group = first; note = note_of end p })) ≡ other_rules c' (picture_at s g first number f p)
  unfolding other_rules horizontal_rule vertical_rule intra_rule crowd_rule repeat_rule progressive_rule precision_rule
  rules_same c' first s g number f end p = refl

  -- one picture more, which ends its frame or not
  picture_on : (done : List Numbered) (n : Numbered) (bit g f : ℕ) (waits : Bool) (o : Places) (t : ℕ) (own e : Bool) → Counted asks low c done g f waits o t → n.group ≡ g → n.frame ≡ f → n.picture.ends_frame ≡ e → own ≡ e
      → (e ≡ false → waits ≡ false)
      → (let p = waits_as bit n in
      let b = is_b n.picture.info.kind in
      Counted asks low c (done ++ n ∷ []) g (if e then f + 1 else f) (not e) (if own then with_frame o p b else with_field o p)
      (t + many asks (other_rules c n) + many asks (if own then place_breaches (told_with_frame o p b) else [])))
  picture_on done n bit g f waits o t own true j eg ef is same alone =
      let p = waits_as bit n in
      let b = is_b n.picture.info.kind in
      subst (λ (x : Bool). Counted asks low c (done ++ n ∷ []) g (f + 1) false (if x then with_frame o p b else with_field o p) (t + many asks (other_rules c n) + many asks (if x then place_breaches (told_with_frame o p b) else []))) (sym same)
      (with_whole asks low c done n bit g f waits o t j eg ef is)
  picture_on done n bit g f waits o t own false j eg ef is same alone =
      let p = waits_as bit n in
      let b = is_b n.picture.info.kind in
      let none : t + many asks (other_rules c n) ≡ t + many asks (other_rules c n) + many asks [] = omega (arith, many_none asks) in
      subst (λ (x : Bool). Counted asks low c (done ++ n ∷ []) g f true (if x then with_frame o p b else with_field o p) (t + many asks (other_rules c n) + many asks (if x then place_breaches (told_with_frame o p b) else []))) (sym same)
      (subst (Counted asks low c (done ++ n ∷ []) g f true (with_field o p)) none (with_first asks low c done n bit g f waits o t j eg ef is (alone refl)))

  abbrev AllBehind : Marked → Type 0
  AllBehind xs = (s : Sequence) (first : Bool) (number : ℕ) (constant : Bool) (o : Places) (done : List Numbered) (g f : ℕ) (waits : Bool) (t : ℕ) → Counted asks low c done g f waits o t
      → IsRate c number constant (numbered (Some s) g first number f (plain xs)) → Alternates waits (pictures_in (plain xs))
      → All (behind s first number constant o) t xs done (numbered (Some s) g first number f (plain xs))

  picture_told : (xs : Marked) (end : ℕ) (p : Picture) → AllBehind xs → AllBehind ((end, coded_picture p) ∷ xs)
  unfolding told numbered
  picture_told xs end p ih s first number constant o done g f waits t j h a =
      let k = behind s first number constant o in
      let n = picture_at s g first number f p in
      let q = coming k s (note_of end p) in
      let f2 : ℕ = if p.ends_frame then f + 1 else f in
      let ns = numbered (Some s) g false (number + 1) f2 (plain xs) in
      let t2 : ℕ = t + many asks (other_rules c n) + many asks (places_told o q) in
      let rate : rate_behind k q ≡ c = rate_by c s g first number f constant p ns _ refl h in
      let rules : many asks (other_rules (rate_behind k q) (numbered_of q)) ≡ many asks (other_rules c n) =
      ap (λ (x : Bool). many asks (other_rules x (numbered_of q))) rate ∙ ap (many asks) (rules_same c first s g number f end p) in
      let next = picture_on done n (end - 32) g f waits o t (ends_frame q.note) p.ends_frame j refl refl refl (sym a.0) a.1 in
      let more = ih s false (number + 1) (rate_behind k q) (places_behind o q) (done ++ n ∷ []) g f2 (not p.ends_frame) t2 next (record { first = λ z. absurd (omega arith); later = λ l. rate }) a.2 in
      let all : many asks (flat_map (picture_breaches low c ((done ++ n ∷ []) ++ ns)) ((done ++ n ∷ []) ++ ns)) ≡ many asks (flat_map (picture_breaches low c (done ++ n ∷ ns)) (done ++ n ∷ ns)) =
      ap (λ (l : List Numbered). many asks (flat_map (picture_breaches low c l) l)) (append_assoc done (n ∷ []) ns) in
      omega (arith, more, all, rules, many-append asks (coded_told k q) (told (with_coded k q) xs), many-append asks (other_rules (rate_behind k q) (numbered_of q)) (places_told o q))

  all_behind : (xs : Marked) → AllBehind xs
  unfolding told numbered
  all_behind [] s first number constant o done g f waits t j h a = all_ended (behind s first number constant o) done g f waits t j
  all_behind ((end, sequence_header x) ∷ xs) s first number constant o done g f waits t j h a =
      let more = all_behind xs x first number constant o done g f waits t j h a in
      omega (arith, more, many-append asks (sequence_breaches (x ∷ [])) (told (behind x first number constant o) xs), one_header asks x (sequences_in (plain xs)))
  all_behind ((end, group_header y) ∷ xs) s first number constant o done g f waits t j h a =
      let close = place_breaches (told_at_close o) in
      let next = group_ended asks low c done g (g + 1) f waits o t j (omega arith) in
      let more = all_behind xs s true number constant (group_closed o) done (g + 1) f waits (t + many asks close) next h a in
      omega (arith, more, many-append asks close (told (behind s true number constant (group_closed o)) xs))
  all_behind ((end, coded_picture p) ∷ xs) s first number constant o done g f waits t j h a = picture_told xs end p (all_behind xs) s first number constant o done g f waits t j h a

  -- before the first sequence header
  abbrev before : Bool → Kept
  before first = record { sequence = None; first_in_group = first; pictures = 0; constant = true; places = no_places low }

  closed_none : many asks (place_breaches (told_at_close (no_places low))) ≡ 0
  unfolding place_breaches
  closed_none = many_none asks

  all_first : (xs : Marked) (first : Bool) (g : ℕ) → not (is_variable (numbered None g first 0 0 (plain xs))) ≡ c → Alternates false (pictures_in (plain xs)) → All (before first) 0 xs [] (numbered None g first 0 0 (plain xs))
  unfolding told numbered
  all_first [] first g e a = omega (arith, closed_none, many_none asks)
  all_first ((end, sequence_header s) ∷ xs) first g e a =
      let more = all_behind xs s first 0 true (no_places low) [] g 0 false 0 (counted_none asks low c g) (record { first = λ z. e; later = λ l. absurd (omega arith) }) a in
      omega (arith, more, many-append asks (sequence_breaches (s ∷ [])) (told (behind s first 0 true (no_places low)) xs), one_header asks s (sequences_in (plain xs)))
  all_first ((end, group_header y) ∷ xs) first g e a =
      let more = all_first xs true (g + 1) e a in
      omega (arith, more, closed_none, many-append asks (place_breaches (told_at_close (no_places low))) (told (before true) xs))
  all_first ((end, coded_picture p) ∷ xs) first g e a =
      let more = all_first xs first g e (alternates_alone (not p.ends_frame) (pictures_in (plain xs)) a.2) in
      omega (arith, more)

-- Of events in which fields alternate as they do, as many breaches are told as are broken, whatever is asked of a breach.
pub as_many_told : (asks : Breach → Bool) (low : Bool) (xs : Marked) → Alternates false (pictures_in (plain xs)) → many asks (told (at_first low) xs) ≡ many asks (breaches low (plain xs))
unfolding breaches
as_many_told asks low xs a =
    let all = all_numbered (plain xs) in
    let c = not (is_variable all) in
    let e = all_first asks low c xs false 0 refl a in
    omega (arith, e, many-append asks (sequence_breaches (sequences_in (plain xs))) (flat_map (picture_breaches low c all) all))
