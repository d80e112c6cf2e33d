-- What is told of groups: where their headers stand among the events, and what stands between them.
use Rattle.std.proofs.Common.{◌≡◌, ℕ, zero, suc, ◌+◌, ◌≤◌, Bool, true, false, List, [], ◌∷◌, ◌++◌, Option, Some, None, refl, sym, ap, ◌∙◌, append_assoc, arith}
use Rattle.std.specs.Prelude.{nat_eq, not, ◌||◌, if◌then◌else◌}
use Rattle.std.specs.List.{flat_map}
use Rattle.std.proofs.lemmas.Bool.{eqb-true}
use Rattle.m2v_model.specs.m2v_macroblock.m2v_head.declared.group.GroupInfo.{GroupInfo}
use Rattle.m2v_model.specs.declared.state.Sequence.{Sequence}
use Rattle.m2v_model.specs.declared.state.Open.{Open}
use Rattle.m2v_model.specs.declared.state.State.{State}
use Rattle.m2v_model.specs.Units.{Units}
use Rattle.m2v_model.specs.Streams.{Part, sequence, group, picture, matrices, slice, unread_slice, skipped_unit, ending, over, after}
use Rattle.m2v_model.specs.Pictures.{Store, Event, Events, sequence_header, group_header, coded_picture, closed, told_by, store_after, events_from, store_from}
use Rattle.m2v_model.specs.Lawful.{Breach, Breaches, judge, numbered, intra_rule}
use Rattle.m2v_law_group.specs.Chosen.{is_header, before_header, from_header, last_sequence}
use Rattle.m2v_law_group.proofs.Runs.{Run, stop, step}
use Rattle.m2v_law_group.proofs.Leads.{NoSequences, groups_of}

-- ---- events, and those behind them

pub events_then : {st z : State} {us rest : Units} {ps : List Part} → Run st us ps z rest → (store : Store) (qs : List Part) → events_from st store (ps ++ qs) ≡ events_from st store ps ++ events_from z (store_from st store ps) qs
unfolding events_from store_from
events_then stop store qs = refl
events_then {st} (step {p = p} {ps = ps} e r) store qs =
    ap (λ (l : Events). told_by st store p ++ l) (events_then r (store_after st store p) qs)
    ∙ sym (append_assoc (told_by st store p) (events_from (after st p) (store_after st store p) ps) _)

pub store_then : {st z : State} {us rest : Units} {ps : List Part} → Run st us ps z rest → (store : Store) (qs : List Part) → store_from st store (ps ++ qs) ≡ store_from z (store_from st store ps) qs
unfolding store_from
store_then stop store qs = refl
store_then {st} (step {p = p} e r) store qs = store_then r (store_after st store p) qs

-- ---- group headers

abbrev pub headers_in : Events → ℕ
headers_in [] = 0
headers_in (e ∷ es) = (if is_header e then 1 else 0) + headers_in es

pub headers_then : (es fs : Events) → headers_in (es ++ fs) ≡ headers_in es + headers_in fs
headers_then [] fs = omega arith
headers_then (e ∷ es) fs = let ih = headers_then es fs in omega (arith, ih)

closed_headers : (o : Option Open) (store : Store) → headers_in (closed o store) ≡ 0
closed_headers None store = refl
closed_headers (Some p) store = refl

-- behind a picture a header, or none
headers_behind : (o : Option Open) (store : Store) (e : Event) (es : Events) (n : ℕ) → headers_in (e ∷ []) ≡ n → headers_in ((closed o store ++ e ∷ []) ++ es) ≡ n + headers_in es
headers_behind o store e es n one =
    let c = closed_headers o store in
    let x = headers_then (closed o store ++ e ∷ []) es in
    let y = headers_then (closed o store) (e ∷ []) in
    omega (arith, c, one, x, y)

pub headers_told : (st : State) (store : Store) (ps : List Part) → headers_in (events_from st store ps) ≡ groups_of ps
unfolding events_from
headers_told st store [] = refl
headers_told st store (sequence s ∷ ps) =
    let ih = headers_told (after st (sequence s)) (store_after st store (sequence s)) ps in
    let x = headers_behind st.picture store (sequence_header s) (events_from (after st (sequence s)) (store_after st store (sequence s)) ps) 0 refl in
    omega (arith, ih, x)
headers_told st store (group g ∷ ps) =
    let ih = headers_told (after st (group g)) (store_after st store (group g)) ps in
    let x = headers_behind st.picture store (group_header g) (events_from (after st (group g)) (store_after st store (group g)) ps) 1 refl in
    omega (arith, ih, x)
headers_told st store (picture info extension ∷ ps) =
    let p = picture info extension in
    let ih = headers_told (after st p) (store_after st store p) ps in
    let c = closed_headers st.picture store in
    let x = headers_then (closed st.picture store) (events_from (after st p) (store_after st store p) ps) in
    omega (arith, ih, c, x)
headers_told st store (matrices m ∷ ps) = headers_told (after st (matrices m)) (store_after st store (matrices m)) ps
headers_told st store (slice row x ∷ ps) = headers_told (after st (slice row x)) (store_after st store (slice row x)) ps
headers_told st store (unread_slice row u ∷ ps) = headers_told (after st (unread_slice row u)) (store_after st store (unread_slice row u)) ps
headers_told st store (skipped_unit u ∷ ps) = headers_told (after st (skipped_unit u)) (store_after st store (skipped_unit u)) ps
headers_told st store (ending ∷ ps) =
    let ih = headers_told (after st ending) (store_after st store ending) ps in
    let c = closed_headers st.picture store in
    let x = headers_then (closed st.picture store) (events_from (after st ending) (store_after st store ending) ps) in
    omega (arith, ih, c, x)
headers_told st store (over ∷ ps) =
    let ih = headers_told (after st over) (store_after st store over) ps in
    let c = closed_headers st.picture store in
    let x = headers_then (closed st.picture store) (events_from (after st over) (store_after st store over) ps) in
    omega (arith, ih, c, x)

-- ---- where they stand

-- what isn't a header is passed over
from_pass : (e : Event) (n : ℕ) (es : Events) → is_header e ≡ false → from_header n (e ∷ es) ≡ from_header n es
unfolding from_header
from_pass e zero es off = rw off refl
from_pass e (suc n) es off = rw off refl

from_next : (e : Event) (n : ℕ) (es : Events) → is_header e ≡ true → from_header (suc n) (e ∷ es) ≡ from_header n es
unfolding from_header
from_next e n es on = rw on refl

from_here : (g : GroupInfo) (es : Events) → from_header 0 (group_header g ∷ es) ≡ group_header g ∷ es
unfolding from_header
from_here g es = refl

from_step : (e : Event) (h : Bool) (n : ℕ) (es : Events) → is_header e ≡ h → from_header ((if h then 1 else 0) + n) (e ∷ es) ≡ from_header n es
from_step e true n es is = let one : 1 + n ≡ suc n = omega arith in ap (λ (m : ℕ). from_header m (e ∷ es)) one ∙ from_next e n es is
from_step e false n es is = let none : 0 + n ≡ n = omega arith in ap (λ (m : ℕ). from_header m (e ∷ es)) none ∙ from_pass e n es is

pub from_there : (es fs : Events) (g : GroupInfo) → from_header (headers_in es) (es ++ group_header g ∷ fs) ≡ group_header g ∷ fs
from_there [] fs g = from_here g fs
from_there (e ∷ es) fs g = from_step e (is_header e) (headers_in es) (es ++ group_header g ∷ fs) refl ∙ from_there es fs g

before_pass : (e : Event) (n : ℕ) (es : Events) → is_header e ≡ false → before_header n (e ∷ es) ≡ e ∷ before_header n es
unfolding before_header
before_pass e zero es off = rw off refl
before_pass e (suc n) es off = rw off refl

before_next : (e : Event) (n : ℕ) (es : Events) → is_header e ≡ true → before_header (suc n) (e ∷ es) ≡ e ∷ before_header n es
unfolding before_header
before_next e n es on = rw on refl

before_here : (g : GroupInfo) (es : Events) → before_header 0 (group_header g ∷ es) ≡ []
unfolding before_header
before_here g es = refl

before_step : (e : Event) (h : Bool) (n : ℕ) (es : Events) → is_header e ≡ h → before_header ((if h then 1 else 0) + n) (e ∷ es) ≡ e ∷ before_header n es
before_step e true n es is = let one : 1 + n ≡ suc n = omega arith in ap (λ (m : ℕ). before_header m (e ∷ es)) one ∙ before_next e n es is
before_step e false n es is = let none : 0 + n ≡ n = omega arith in ap (λ (m : ℕ). before_header m (e ∷ es)) none ∙ before_pass e n es is

pub before_there : (es fs : Events) (g : GroupInfo) → before_header (headers_in es) (es ++ group_header g ∷ fs) ≡ es
before_there [] fs g = before_here g fs
before_there (e ∷ es) fs g = before_step e (is_header e) (headers_in es) (es ++ group_header g ∷ fs) refl ∙ ap (λ (l : Events). e ∷ l) (before_there es fs g)

all_step : (e : Event) (h : Bool) (n : ℕ) (es : Events) → is_header e ≡ h → (if h then 1 else 0) + headers_in es ≤ n → ((m : ℕ) → headers_in es ≤ m → before_header m es ≡ es) → before_header n (e ∷ es) ≡ e ∷ es
all_step e true zero es is le ih = absurd (omega (arith, le))
all_step e true (suc n) es is le ih = before_next e n es is ∙ ap (λ (l : Events). e ∷ l) (ih n (omega (arith, le)))
all_step e false n es is le ih = before_pass e n es is ∙ ap (λ (l : Events). e ∷ l) (ih n (omega (arith, le)))

pub before_all : (es : Events) (n : ℕ) → headers_in es ≤ n → before_header n es ≡ es
unfolding before_header
before_all [] n le = refl
before_all (e ∷ es) n le = all_step e (is_header e) n es refl le (before_all es)

-- ---- the last sequence header

pub last_then : (s : Option Sequence) (es fs : Events) → last_sequence s (es ++ fs) ≡ last_sequence (last_sequence s es) fs
unfolding last_sequence
last_then s [] fs = refl
last_then s (sequence_header t ∷ es) fs = last_then (Some t) es fs
last_then s (group_header g ∷ es) fs = last_then s es fs
last_then s (coded_picture p ∷ es) fs = last_then s es fs

closed_last : (s : Option Sequence) (o : Option Open) (store : Store) → last_sequence s (closed o store) ≡ s
unfolding last_sequence
closed_last s None store = refl
closed_last s (Some p) store = refl

last_pass : (s : Option Sequence) (es fs : Events) → last_sequence s es ≡ s → last_sequence s (es ++ fs) ≡ last_sequence s fs
last_pass s es fs e = last_then s es fs ∙ ap (λ (x : Option Sequence). last_sequence x fs) e

pub last_kept : (s : Option Sequence) (st : State) (store : Store) (ps : List Part) → NoSequences ps → last_sequence s (events_from st store ps) ≡ s
unfolding events_from last_sequence
last_kept s st store [] n = refl
last_kept s st store (sequence t ∷ ps) n = absurd n
last_kept s st store (group g ∷ ps) n =
    last_pass s (closed st.picture store ++ group_header g ∷ []) _ (last_pass s (closed st.picture store) (group_header g ∷ []) (closed_last s st.picture store))
    ∙ last_kept s (after st (group g)) (store_after st store (group g)) ps n
last_kept s st store (picture info extension ∷ ps) n = last_pass s (closed st.picture store) _ (closed_last s st.picture store) ∙ last_kept s (after st (picture info extension)) (store_after st store (picture info extension)) ps n
last_kept s st store (matrices m ∷ ps) n = last_kept s (after st (matrices m)) (store_after st store (matrices m)) ps n
last_kept s st store (slice row x ∷ ps) n = last_kept s (after st (slice row x)) (store_after st store (slice row x)) ps n
last_kept s st store (unread_slice row u ∷ ps) n = last_kept s (after st (unread_slice row u)) (store_after st store (unread_slice row u)) ps n
last_kept s st store (skipped_unit u ∷ ps) n = last_kept s (after st (skipped_unit u)) (store_after st store (skipped_unit u)) ps n
last_kept s st store (ending ∷ ps) n = last_pass s (closed st.picture store) _ (closed_last s st.picture store) ∙ last_kept s (after st ending) (store_after st store ending) ps n
last_kept s st store (over ∷ ps) n = last_pass s (closed st.picture store) _ (closed_last s st.picture store) ∙ last_kept s (after st over) (store_after st store over) ps n

-- ---- the first picture behind each group header

abbrev pub TenEvents : Bool → Events → Type 0
TenEvents fresh [] = Unit {0}
TenEvents fresh (sequence_header s ∷ es) = TenEvents fresh es
TenEvents fresh (group_header g ∷ es) = TenEvents true es
TenEvents fresh (coded_picture p ∷ es) = (fresh ≡ true → p.info.kind ≡ 1) × TenEvents false es

pub none_left : (a b : Breaches) → a ++ b ≡ [] → (a ≡ []) × (b ≡ [])
none_left [] b e = (refl, e)
none_left (x ∷ a) b e = absurd cc

judged_none : (holds : Bool) (b : Breach) → judge holds b ≡ [] → holds ≡ true
judged_none true b e = refl
judged_none false b e = absurd cc

intra_by : (fresh : Bool) (kind : ℕ) → (not fresh || nat_eq kind 1) ≡ true → fresh ≡ true → kind ≡ 1
intra_by true kind e on = eqb-true kind 1 e
intra_by false kind e on = absurd cc

pub ten_events : (s : Sequence) (g : ℕ) (fresh : Bool) (n f : ℕ) (es : Events) → flat_map intra_rule (numbered (Some s) g fresh n f es) ≡ [] → TenEvents fresh es
unfolding numbered intra_rule
ten_events s g fresh n f [] e = tt
ten_events s g fresh n f (sequence_header t ∷ es) e = ten_events t g fresh n f es e
ten_events s g fresh n f (group_header h ∷ es) e = ten_events s (g + 1) true n f es e
ten_events s g fresh n f (coded_picture p ∷ es) e =
    let parts = none_left _ _ e in
    (intra_by fresh p.info.kind (judged_none (not fresh || nat_eq p.info.kind 1) _ parts.0), ten_events s g false (n + 1) _ es parts.1)

pub ten_behind : (fresh : Bool) (es fs : Events) (g : GroupInfo) → TenEvents fresh (es ++ group_header g ∷ fs) → TenEvents true fs
ten_behind fresh [] fs g h = h
ten_behind fresh (sequence_header s ∷ es) fs g h = ten_behind fresh es fs g h
ten_behind fresh (group_header x ∷ es) fs g h = ten_behind true es fs g h
ten_behind fresh (coded_picture p ∷ es) fs g h = ten_behind false es fs g h.1
