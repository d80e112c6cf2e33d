-- A stream of the encoder's groups breaks no rule.
use Rattle.std.proofs.Common.{◌≡◌, ℕ, ◌+◌, ◌<◌, ◌≤◌, Bool, false, not, List, [], ◌∷◌, ◌++◌, refl, sym, ap, subst, ◌∙◌, arith, append_assoc}
use Rattle.std.specs.Prelude.{All, nat_eq}
use Rattle.std.specs.List.{flat_map}
use Rattle.std.proofs.lemmas.List.Elements.{All-nil, All-cons, All-append, All-head, All-tail, All-weaker}
use Rattle.m2v_set.specs.declared.settings.Settings.{Settings}
use Rattle.m2v_set.specs.Rules.{Passes}
use Rattle.m2v_order.specs.declared.jobs.PictureJob.{PictureJob}
use Rattle.m2v_order.specs.Groups.{Group}
use Rattle.m2v_order.specs.Whole.{IsGroupOf}
use Rattle.m2v_order.proofs.Intra.{test_other}
use Rattle.m2v_model.specs.declared.state.Sequence.{Sequence}
use Rattle.m2v_model.specs.Pictures.{Events}
use Rattle.m2v_model.specs.Lawful.{Numbered, picture_breaches, sequences_in, all_numbered, is_variable, breaches}
use Rattle.m2v_law_shown.specs.Own.{own_sequence}
use Rattle.m2v_law_shown.specs.Places.{behind, AreOwn, behind_all, AreOwnGroups}
use Rattle.m2v_law_shown.proofs.Sequences.{flat_none, sequences_none}
use Rattle.m2v_law_shown.proofs.LawfulGroups.{group_none}

own_group : (s : Settings) (group frame : ℕ) (jobs : List PictureJob) (ns : List Numbered) → AreOwn s group frame jobs ns
    → All (λ (n : Numbered). n.group ≡ group) ns
unfolding AreOwn
own_group s group frame [] [] own = All-nil (λ (n : Numbered). n.group ≡ group)
own_group s group frame [] (n ∷ ns) own = absurd own
own_group s group frame (job ∷ jobs) [] own = absurd own
own_group s group frame (job ∷ jobs) (n ∷ ns) own =
    All-cons (λ (n : Numbered). n.group ≡ group) n ns own.0.1.0 (own_group s group (behind frame job) jobs ns own.1)

abbrev BreaksNo : Bool → List Numbered → Numbered → Type 0
BreaksNo constant all n = picture_breaches false constant all n ≡ []

module _ {F : Type 0} (s : Settings) where
  groups_low : (group frame : ℕ) (gs : List (Group F)) (ns : List Numbered) → AreOwnGroups s group frame gs ns → All (λ (n : Numbered). group ≤ n.group) ns
  unfolding AreOwnGroups
  groups_low group frame [] ns own = subst (All (λ (n : Numbered). group ≤ n.group)) (sym own) (All-nil (λ (n : Numbered). group ≤ n.group))
  groups_low group frame (g ∷ gs) ns own =
      let P = λ (n : Numbered). group ≤ n.group in
      let mine = own.0 in
      let rest = own.1.0 in
      let next = behind_all frame g.pictures in
      subst (All P) (sym own.1.1.0)
      (All-append P mine rest
      (All-weaker (λ (n : Numbered). n.group ≡ group) P (λ n e. omega (arith, e)) mine (own_group s group frame g.pictures mine own.1.1.1.0))
      (All-weaker (λ (n : Numbered). group + 1 ≤ n.group) P (λ n e. omega (arith, e)) rest (groups_low (group + 1) next gs rest own.1.1.1.1)))

  module _ (constant : Bool) (passes : Passes s) (all : List Numbered) where
    groups_none : (group frame : ℕ) (gs : List (Group F)) (before ns : List Numbered) → All (λ (g : Group F). IsGroupOf s g) gs
        → AreOwnGroups s group frame gs ns → All (λ (n : Numbered). n.group < group) before → all ≡ before ++ ns → All (BreaksNo constant all) ns
    unfolding AreOwnGroups
    groups_none group frame [] before ns are own first e = subst (All (BreaksNo constant all)) (sym own) (All-nil (BreaksNo constant all))
    groups_none group frame (g ∷ gs) before ns are own first e =
        let P = λ (g : Group F). IsGroupOf s g in
        let mine = own.0 in
        let rest = own.1.0 in
        let split = own.1.1.0 in
        let here = own.1.1.1.0 in
        let more = own.1.1.1.1 in
        let next = behind_all frame g.pictures in
        let Other = λ (n : Numbered). nat_eq n.group group ≡ false in
        let there : all ≡ before ++ (mine ++ rest) = e ∙ ap (λ xs. before ++ xs) split in
        let earlier : All Other before = All-weaker (λ (n : Numbered). n.group < group) Other (λ n l. test_other n.group group (λ q. omega (arith, l, q))) before first in
        let later : All Other rest =
        All-weaker (λ (n : Numbered). group + 1 ≤ n.group) Other (λ n l. test_other n.group group (λ q. omega (arith, l, q))) rest (groups_low (group + 1) next gs rest more) in
        let Q = λ (n : Numbered). n.group < group + 1 in
        subst (All (BreaksNo constant all)) (sym split)
        (All-append (BreaksNo constant all) mine rest
        (subst (λ (xs : List Numbered). All (λ (n : Numbered). picture_breaches false constant xs n ≡ []) mine) (sym there)
        (group_none s constant g group frame before mine rest passes (All-head P g gs are) here earlier later))
        (groups_none (group + 1) next gs (before ++ mine) rest (All-tail P g gs are) more
        (All-append Q before mine
        (All-weaker (λ (n : Numbered). n.group < group) Q (λ n l. omega (arith, l)) before first)
        (All-weaker (λ (n : Numbered). n.group ≡ group) Q (λ n l. omega (arith, l)) mine (own_group s group frame g.pictures mine here)))
        (there ∙ sym (append_assoc before mine rest))))

  pub stream_none : (gs : List (Group F)) (es : Events) → Passes s → All (λ (g : Group F). IsGroupOf s g) gs
      → All (λ (t : Sequence). t ≡ own_sequence s) (sequences_in es) → AreOwnGroups s 1 0 gs (all_numbered es) → breaches false es ≡ []
  unfolding breaches
  stream_none gs es passes are sequences own =
      let all = all_numbered es in
      let constant = not (is_variable all) in
      let P = λ (n : Numbered). picture_breaches false constant all n ≡ [] in
      let each : All P all = groups_none constant passes all 1 0 gs [] all are own (All-nil (λ (n : Numbered). n.group < 1)) refl in
      let pictures : flat_map (picture_breaches false constant all) all ≡ [] =
      flat_none (picture_breaches false constant all) P all each (λ n e. e) in
      ap (λ xs. xs ++ flat_map (picture_breaches false constant all) all) (sequences_none s (sequences_in es) passes sequences) ∙ pictures
