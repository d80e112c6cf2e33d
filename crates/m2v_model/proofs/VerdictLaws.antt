-- The verdict on a stream is one, and its account is safe exactly where each picture is.
use Rattle.std.proofs.Common.{◌≡◌, ℕ, ◌*◌, ◌≤◌, Bool, true, false, List, [], ◌∷◌, ◌++◌, ◌⊎◌, inl, inr, refl, sym, ap, ◌∙◌, append-nil, append_assoc}
use Rattle.std.specs.Prelude.{if◌then◌else◌, nat_le}
use Rattle.std.proofs.lemmas.Bool.{leb-true, le-leb}
use Rattle.m2v_vbv.specs.Annex.{Removal, Held}
use Rattle.m2v_vbv.specs.declared.fault.AccountFault.{AccountFault}
use Rattle.m2v_model.specs.Streams.{Sofar}
use Rattle.m2v_model.specs.Decoding.{Stream}
use Rattle.m2v_model.specs.Lawful.{Breach, Breaches, Lawful, Broken, breaches_of}
use Rattle.m2v_model.specs.Buffering.{StreamAccount, unsafe_at, unsafe_from, unsafe_in, account_in, figures_in, IsJudgedByAll, Safe, FirstUnsafe, OneVerdict}
use Rattle.m2v_model.proofs.Unique.{exactly_one}

-- ---- one verdict

one_tree : (text : List ℕ) (a b : Sofar) → Stream text a → Stream text b → a ≡ b
one_tree text = (exactly_one text).one_tree

rules_of : (text : List ℕ) (tree : Sofar) → Stream text tree → (bs : Breaches) → breaches_of tree ≡ bs → Lawful text ⊎ ((b : Breach) × Broken text b)
rules_of text tree s [] e = inl (record { tree = tree; stream = s; lawful = e })
rules_of text tree s (b ∷ bs) e = inr (b, record { tree = tree; stream = s; others = bs; broken = e })

buffer_of : (text : List ℕ) (tree : Sofar) → Stream text tree → (fs : List AccountFault) → unsafe_in (account_in text tree) ≡ fs → Safe text ⊎ ((f : AccountFault) × FirstUnsafe text f)
buffer_of text tree s [] e = inl (record { tree = tree; stream = s; safe = e })
buffer_of text tree s (f ∷ fs) e = inr (f, record { tree = tree; stream = s; others = fs; unsafe = e })

same_first : {A : Type 0} (x y : A) (xs ys : List A) → x ∷ xs ≡ y ∷ ys → x ≡ y
same_first x y xs ys e = cc

not_none : {A : Type 0} (x : A) (xs ys : List A) → ys ≡ [] → ys ≡ x ∷ xs → ⊥
not_none x xs ys e f = absurd cc

pub one_verdict : (text : List ℕ) (tree : Sofar) → Stream text tree → OneVerdict text
one_verdict text tree s = record {
  rules = rules_of text tree s (breaches_of tree) refl;
  not_lawful = λ b l k. not_none b k.others (breaches_of l.tree) l.lawful (ap breaches_of (one_tree text l.tree k.tree l.stream k.stream) ∙ k.broken);
  one_breach = λ b c k l. same_first b c k.others l.others (sym k.broken ∙ ap breaches_of (one_tree text k.tree l.tree k.stream l.stream) ∙ l.broken);
  buffer = buffer_of text tree s (unsafe_in (account_in text tree)) refl;
  not_safe = λ f k u. not_none f u.others (unsafe_in (account_in text k.tree)) k.safe (ap (λ (t : Sofar). unsafe_in (account_in text t)) (one_tree text k.tree u.tree k.stream u.stream) ∙ u.unsafe);
  one_failure = λ f g u v. same_first f g u.others v.others (sym u.unsafe ∙ ap (λ (t : Sofar). unsafe_in (account_in text t)) (one_tree text u.tree v.tree u.stream v.stream) ∙ v.unsafe);
  some_figures = (figures_in text tree, record { tree = tree; stream = s; figures = refl });
  one_figures = λ f g h k. h.figures ∙ ap (λ (t : Sofar). figures_in text t) (one_tree text h.tree k.tree h.stream k.stream) ∙ sym k.figures;
}

-- ---- each picture is safe

nil_parts : {A : Type 0} (xs ys : List A) → xs ++ ys ≡ [] → (xs ≡ []) × (ys ≡ [])
nil_parts [] ys e = (refl, e)
nil_parts (x ∷ xs) ys e = absurd cc

holds : {A : Type 0} (b : Bool) (x : A) → (if b then [] else x ∷ []) ≡ [] → b ≡ true
holds true x e = refl
holds false x e = absurd cc

safe_at : (a : StreamAccount) (before : List Removal) (r : Removal) → unsafe_at a before r ≡ []
    → (1800 * r.bits ≤ Held a.start a.total before) × (Held a.start a.total before ≤ 1800 * a.start.buffer_bits)
unfolding unsafe_at
safe_at a before r e =
    let parts = nil_parts _ _ e in
    (leb-true _ _ (holds (nat_le (1800 * r.bits) (Held a.start a.total before)) _ parts.0), leb-true _ _ (holds (nat_le (Held a.start a.total before) (1800 * a.start.buffer_bits)) _ parts.1))

unsafe_none : (a : StreamAccount) (before : List Removal) (r : Removal)
    → (1800 * r.bits ≤ Held a.start a.total before) × (Held a.start a.total before ≤ 1800 * a.start.buffer_bits) → unsafe_at a before r ≡ []
unfolding unsafe_at
unsafe_none a before r s = rw (le-leb (1800 * r.bits) (Held a.start a.total before) s.0, le-leb (Held a.start a.total before) (1800 * a.start.buffer_bits) s.1) refl

safe_split : (a : StreamAccount) (before rs : List Removal) → unsafe_from a before rs ≡ []
    → (b : List Removal) (r : Removal) (l : List Removal) → rs ≡ b ++ r ∷ l → (1800 * r.bits ≤ Held a.start a.total (before ++ b)) × (Held a.start a.total (before ++ b) ≤ 1800 * a.start.buffer_bits)
unfolding unsafe_from
safe_split a before [] e [] r l s = absurd cc
safe_split a before [] e (y ∷ b) r l s = absurd cc
safe_split a before (x ∷ rs) e [] r l s =
    let same : x ≡ r = cc in
    rw (append-nil before, ← same) (safe_at a before x (nil_parts _ _ e).0)
safe_split a before (x ∷ rs) e (y ∷ b) r l s =
    let same : x ≡ y = cc in
    let rest : rs ≡ b ++ r ∷ l = cc in
    let out = safe_split a (before ++ x ∷ []) rs (nil_parts _ _ e).1 b r l rest in
    rw (← same, ← append_assoc before (x ∷ []) b) out

none_from : (a : StreamAccount) (before rs : List Removal)
    → ((b : List Removal) (r : Removal) (l : List Removal) → rs ≡ b ++ r ∷ l → (1800 * r.bits ≤ Held a.start a.total (before ++ b)) × (Held a.start a.total (before ++ b) ≤ 1800 * a.start.buffer_bits))
    → unsafe_from a before rs ≡ []
unfolding unsafe_from
none_from a before [] h = refl
none_from a before (x ∷ rs) h =
    let here = unsafe_none a before x (rw (← append-nil before) (h [] x rs refl)) in
    let later = none_from a (before ++ x ∷ []) rs (λ b r l s. rw (append_assoc before (x ∷ []) b) (h (x ∷ b) r l (ap (λ (t : List Removal). x ∷ t) s))) in
    rw (here, later) refl

pub judged_by_all : (a : StreamAccount) → IsJudgedByAll a
judged_by_all a = (λ e. safe_split a [] a.removals e, λ s. none_from a [] a.removals s)
