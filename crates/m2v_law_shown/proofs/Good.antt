-- Each group of a stream has its book and delays of 16 bits that aren't all set, and is a group that was handed out.
use Rattle.std.proofs.Common.{◌≡◌, ℕ, zero, suc, ◌<◌, ◌≤◌, Bool, true, false, inl, inr, List, [], ◌∷◌, length, refl, sym, subst}
use Rattle.std.specs.Prelude.{All}
use Rattle.std.proofs.lemmas.Bool.{cases_Bool}
use Rattle.std.proofs.lemmas.List.Elements.{All-nil, All-cons}
use Rattle.m2v_plane.specs.Samples.{Samples}
use Rattle.m2v_set.specs.declared.settings.Settings.{Settings}
use Rattle.m2v_set.specs.Rules.{Passes}
use Rattle.m2v_order.specs.Groups.{Queue, Group, is_due, group_of, after_group, IsSoundQueue}
use Rattle.m2v_order.specs.Whole.{IsGroupOf}
use Rattle.m2v_order.proofs.Queues.{grouped, due_is, turn_is, sound_next}
use Rattle.m2v_order.proofs.Wholes.{group_is}
use Rattle.m2v_slice.specs.Conditions.{IsBook}
use Rattle.m2v_enc_stream.proofs.Queues.{from_due, from_none, from_zero, sound_waiting}
use Rattle.m2v_enc_stream.specs.Streams.{Progress, at_start, book_of, group_coded, groups_from, waiting}
use Rattle.m2v_enc_stream.specs.Removals.{groups_of}
use Rattle.m2v_enc_stream.proofs.Places.{delay_small}
use Rattle.m2v_enc_stream.proofs.Stands.{HaveBooks, have_books}
use Rattle.m2v_law_shown.proofs.Steps.{delay_from}

-- ---- books and delays

-- a group behind what is coded so far
pub record IsGood (s : Settings) (x : Progress) (g : Group Samples) : Type 0 where
  pub book : IsBook (book_of s x g)
  pub small : (ends : Bool) (p : ℕ) → p < length g.pictures → delay_from (book_of s x g) ends (length x.text) p ≤ 65534

-- and groups one behind another
abbrev pub AreGood : Settings → Progress → List (Group Samples) → Type 0
AreGood s x [] = Unit {0}
AreGood s x (g ∷ more) = IsGood s x g × AreGood s (group_coded s x g false) more

good_from : (s : Settings) (gs : List (Group Samples)) (x : Progress) → HaveBooks s x gs → AreGood s x gs
good_from s [] x h = tt
good_from s (g ∷ later) x h = (
  record { book = h.0.book; small = λ ends p lt. delay_small (book_of s x g) h.0.book ends (length x.text) p lt h.0.place },
  good_from s later (group_coded s x g false) h.1,
)

pub are_good : (s : Settings) (frames : List (List ℕ)) → Passes s → length frames ≤ 999999 → AreGood s (at_start s) (groups_of s frames)
are_good s frames passes few = good_from s (groups_of s frames) (at_start s) (have_books s frames passes few)

-- ---- groups of a queue

abbrev AreGroups : Settings → List (Group Samples) → Type 0
AreGroups s gs = All (λ (g : Group Samples). IsGroupOf s g) gs

groups_by : (s : Settings) (n : ℕ) (q : Queue Samples) → Passes s → q.settings ≡ s → IsSoundQueue q → AreGroups s (groups_from n q)
groups_by s zero q passes same sound = subst (AreGroups s) (sym (from_zero q)) (All-nil (λ (g : Group Samples). IsGroupOf s g))
groups_by s (suc n) q passes same sound = elim (cases_Bool (is_due q)) [
  | inl is ↦
      let pass : Passes q.settings = subst Passes (sym same) passes in
      let ok = grouped q.settings pass in
      let due = due_is q is in
      let turn = turn_is q ok sound due in
      let group : IsGroupOf s (group_of q) = subst (λ (t : Settings). IsGroupOf t (group_of q)) same (group_is q pass sound is) in
      subst (AreGroups s) (sym (from_due n q is))
      (All-cons (λ (g : Group Samples). IsGroupOf s g) (group_of q) (groups_from n (after_group q)) group
      (groups_by s n (after_group q) passes same (sound_next q ok due turn)))
  | inr none ↦ subst (AreGroups s) (sym (from_none (suc n) q none)) (All-nil (λ (g : Group Samples). IsGroupOf s g))
]

pub are_groups : (s : Settings) (frames : List (List ℕ)) → Passes s → All (λ (g : Group Samples). IsGroupOf s g) (groups_of s frames)
are_groups s frames passes = groups_by s (length frames) (waiting s frames true) passes refl (sound_waiting s frames passes)
