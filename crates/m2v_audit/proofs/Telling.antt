-- What is told of removals, one after another and all at once.
use Rattle.std.proofs.Common.{◌≡◌, ℕ, true, false, List, [], ◌∷◌, ◌++◌, Option, Some, None, refl, sym, ap, subst, ◌∙◌}
use Rattle.std.specs.Prelude.{IsNone}
use Rattle.std.specs.Option.{option_to_list}
use Rattle.m2v_vbv.specs.declared.removed.Removed.{Removed}
use Rattle.m2v_vbv.specs.Buffer.{Buffer, told, next, left, tells}
use Rattle.m2v_audit.specs.declared.account.Due.{Due}
use Rattle.m2v_audit.specs.Account.{picture_of, pictures, Told, Account, last_bits, known, settles, removing, first_of, first_left, Tells, settled_of, behind_settled, settled, after_settled, ended}
use Rattle.m2v_audit.proofs.Kept.{known_is}

-- ---- one removal

same_step : (a : Account) (d : Due) (ds : List Due) (last : Option Due) (k : ℕ) (t : Removed) (b : Buffer)
    → k ≡ known a → t ≡ told a.buffer (picture_of d) k → b ≡ next a.buffer (picture_of d) k
    → removing a d ds last ≡ ((d, t), record { buffer = b; waiting = ds; last = last; total = a.total })
same_step a d ds last k t b e et eb = rw (et, eb, e) refl

pub first_is : (a : Account) (d : Due) (ds : List Due) (k : ℕ) (t : Removed) (b : Buffer)
    → a.waiting ≡ d ∷ ds → k ≡ known a → t ≡ told a.buffer (picture_of d) k → b ≡ next a.buffer (picture_of d) k
    → first_of a.waiting a ≡ Some ((d, t), record { buffer = b; waiting = ds; last = a.last; total = a.total })
unfolding first_of
first_is a d ds k t b w e et eb = ap (λ (xs : List Due). first_of xs a) w ∙ ap (λ (x : Told × Account). Some x) (same_step a d ds a.last k t b e et eb)

pub none_waits : (a : Account) → a.waiting ≡ [] → first_of a.waiting a ≡ None
unfolding first_of
none_waits a w = ap (λ (xs : List Due). first_of xs a) w

pub end_is : (a : Account) (d : Due) (k : ℕ) (t : Removed) (b : Buffer) (ds : List Due) (left : Option Due)
    → a.last ≡ Some d → k ≡ known a → t ≡ told a.buffer (picture_of d) k → b ≡ next a.buffer (picture_of d) k → ds ≡ [] → left ≡ None
    → first_left [] a.last a ≡ Some ((d, t), record { buffer = b; waiting = ds; last = left; total = a.total })
unfolding first_left
end_is a d k t b ds left w e et eb alone none =
    rw (alone, none) (ap (λ (x : Option Due). first_left [] x a) w ∙ ap (λ (x : Told × Account). Some x) (same_step a d [] None k t b e et eb))

pub none_is_left : (a : Account) → a.last ≡ None → first_left [] a.last a ≡ None
unfolding first_left
none_is_left a w = ap (λ (x : Option Due). first_left [] x a) w

pub none_first : (a : Account) (ds : List Due) → first_of ds a ≡ None → ds ≡ []
unfolding first_of
none_first a [] e = refl
none_first a (d ∷ ds) e = absurd cc

pub first_too : (a : Account) (ds : List Due) (x : Told × Account) → first_of ds a ≡ Some x → first_left ds a.last a ≡ Some x
unfolding first_of first_left
first_too a [] x e = absurd cc
first_too a (d ∷ ds) x e = e

-- ---- the end

-- what is told is the first of all that is left
pub left_told : (b : Buffer) (ds : List Due) (last : Option Due) (total : ℕ) (t : Told) (new : Account) →
    let a : Account = record { buffer = b; waiting = ds; last = last; total = total } in
    first_left ds last a ≡ Some (t, new) → ended a ≡ t ∷ ended new
unfolding first_left tells
left_told b [] None total t new e = absurd cc
left_told b [] (Some d) total t new e =
    let a : Account = record { buffer = b; waiting = []; last = Some d; total = total } in
    let is : removing a d [] None ≡ (t, new) = cc in
    ap (λ (x : Told × Account). x.0 ∷ ended x.1) is
left_told b (d ∷ ds) last total t new e =
    let a : Account = record { buffer = b; waiting = d ∷ ds; last = last; total = total } in
    let is : removing a d ds last ≡ (t, new) = cc in
    ap (λ (x : Told × Account). x.0 ∷ ended x.1) is

pub none_left : (b : Buffer) (ds : List Due) (last : Option Due) (total : ℕ) →
    let a : Account = record { buffer = b; waiting = ds; last = last; total = total } in
    first_left ds last a ≡ None → ended a ≡ []
unfolding first_left tells
none_left b [] None total e = refl
none_left b [] (Some d) total e = absurd cc
none_left b (d ∷ ds) last total e = absurd cc

pub none_before : (a mid : Account) (r : Option Told) (new : Account) → first_of a.waiting a ≡ None → mid ≡ a
    → Tells (first_left [] mid.last mid) mid r new → Tells (first_left a.waiting a.last a) a r new
none_before a mid r new none same says =
    subst (λ (xs : List Due). Tells (first_left xs a.last a) a r new) (sym (none_first a a.waiting none))
    (subst (λ (m : Account). Tells (first_left [] m.last m) m r new) same says)

-- what is told is the first of all that are left; where nothing is, none is left
pub record Ended (a : Account) (r : Option Told) (new : Account) : Type 0 where
  pub told : ended a ≡ option_to_list r ++ ended new
  pub none : IsNone r → ended a ≡ []

pub end_says : (a : Account) (r : Option Told) (new : Account) → Tells (first_left a.waiting a.last a) a r new → Ended a r new
end_says a None new says = record { told = ap ended (sym says.1); none = λ _. none_left a.buffer a.waiting a.last a.total says.0 }
end_says a (Some t) new says = record { told = left_told a.buffer a.waiting a.last a.total t new says; none = λ (f : IsNone (Some t)). absurd cc }

-- ---- what is settled

pub open_told : (b : Buffer) (d : Due) (ds : List Due) (n : ℕ) → settles b (left (pictures (d ∷ ds)) n) ≡ false → settled_of b (d ∷ ds) n ≡ []
unfolding settled_of
open_told b d ds n e = rw e refl

pub open_behind : (b : Buffer) (d : Due) (ds : List Due) (n : ℕ) → settles b (left (pictures (d ∷ ds)) n) ≡ false → behind_settled b (d ∷ ds) n ≡ (b, d ∷ ds)
unfolding behind_settled
open_behind b d ds n e = rw e refl

pub one_told : (b : Buffer) (d : Due) (ds : List Due) (n : ℕ) → let k = left (pictures (d ∷ ds)) n in settles b k ≡ true
    → settled_of b (d ∷ ds) n ≡ (d, told b (picture_of d) k) ∷ settled_of (next b (picture_of d) k) ds n
unfolding settled_of
one_told b d ds n e = rw e refl

pub one_behind : (b : Buffer) (d : Due) (ds : List Due) (n : ℕ) → let k = left (pictures (d ∷ ds)) n in settles b k ≡ true
    → behind_settled b (d ∷ ds) n ≡ behind_settled (next b (picture_of d) k) ds n
unfolding behind_settled
one_behind b d ds n e = rw e refl

-- what is told is the first of all that is settled; where nothing is, none of it is settled
pub record Settled (a : Account) (r : Option Told) (new : Account) : Type 0 where
  pub told : settled a ≡ option_to_list r ++ settled new
  pub after : after_settled new ≡ after_settled a
  pub none : IsNone r → (settled a ≡ []) × (new ≡ after_settled a)

settled_first : (a : Account) (d : Due) (ds : List Due) → a.waiting ≡ d ∷ ds → settles a.buffer (known a) ≡ true → (x : Told × Account) → removing a d ds a.last ≡ x
    → (settled a ≡ x.0 ∷ settled x.1) × (after_settled x.1 ≡ after_settled a)
settled_first a d ds w e x is =
    let n = last_bits a.last in
    let k : known a ≡ left (pictures (d ∷ ds)) n = known_is a.waiting a.last ∙ ap (λ (xs : List Due). left (pictures xs) n) w in
    let one = one_told a.buffer d ds n (subst (λ (k : ℕ). settles a.buffer k ≡ true) k e) in
    let behind = one_behind a.buffer d ds n (subst (λ (k : ℕ). settles a.buffer k ≡ true) k e) in
    let with : Buffer × List Due → Account = λ p. record { buffer = p.0; waiting = p.1; last = a.last; total = a.total } in
    let told : settled a ≡ (d, told a.buffer (picture_of d) (known a)) ∷ settled_of (next a.buffer (picture_of d) (known a)) ds n =
    ap (λ (xs : List Due). settled_of a.buffer xs n) w ∙ one
    ∙ ap (λ (k : ℕ). (d, told a.buffer (picture_of d) k) ∷ settled_of (next a.buffer (picture_of d) k) ds n) (sym k) in
    let after : after_settled a ≡ with (behind_settled (next a.buffer (picture_of d) (known a)) ds n) =
    ap (λ (xs : List Due). with (behind_settled a.buffer xs n)) w ∙ ap with behind
    ∙ ap (λ (k : ℕ). with (behind_settled (next a.buffer (picture_of d) k) ds n)) (sym k) in
    (told ∙ ap (λ (y : Told × Account). y.0 ∷ settled y.1) is, sym (after ∙ ap (λ (y : Told × Account). after_settled y.1) is))

pub settle_says : (b : Buffer) (ds : List Due) (last : Option Due) (total : ℕ) (r : Option Told) (new : Account) →
    let a : Account = record { buffer = b; waiting = ds; last = last; total = total } in
    settles b (known a) ≡ true → Tells (first_of ds a) a r new → Settled a r new
unfolding first_of settled_of behind_settled
settle_says b [] last total None new e says = record { told = ap settled (sym says.1); after = ap after_settled says.1; none = λ _. (refl, says.1) }
settle_says b [] last total (Some t) new e says = absurd cc
settle_says b (d ∷ ds) last total None new e says = let f = says.0 in absurd cc
settle_says b (d ∷ ds) last total (Some t) new e says =
    let a : Account = record { buffer = b; waiting = d ∷ ds; last = last; total = total } in
    let is : removing a d ds last ≡ (t, new) = cc in
    let first = settled_first a d ds refl e (t, new) is in
    record { told = first.0; after = first.1; none = λ (f : IsNone (Some t)). absurd cc }

pub open_says : (b : Buffer) (ds : List Due) (last : Option Due) (total : ℕ) →
    let a : Account = record { buffer = b; waiting = ds; last = last; total = total } in
    settles b (known a) ≡ false → (settled a ≡ []) × (a ≡ after_settled a)
unfolding settled_of behind_settled
open_says b [] last total e = (refl, refl)
open_says b (d ∷ ds) last total e =
    let n = last_bits last in
    let f = subst (λ (k : ℕ). settles b k ≡ false) (known_is (d ∷ ds) last) e in
    let with : Buffer × List Due → Account = λ p. record { buffer = p.0; waiting = p.1; last = last; total = total } in
    (open_told b d ds n f, ap with (sym (open_behind b d ds n f)))
