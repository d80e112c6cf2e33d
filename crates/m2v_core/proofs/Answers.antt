-- What a core answers to an event and what the event does, by what was tested.
use Rattle.std.proofs.Common.{◌≡◌, ℕ, ◌<◌, ◌≤◌, true, false, List, refl, arith, ltb}
use Rattle.std.specs.Prelude.{Ok, Err, Some, None}
use Rattle.std.proofs.lemmas.Bool.{lt-ltb}
use Rattle.std.proofs.lemmas.Bool.Decides.{nat_tests}
use Rattle.m2v_core.specs.declared.event.Event.TheVariants.{Claim, Publish}
use Rattle.m2v_core.specs.declared.event.Answer.TheVariants.{Drawn, End, Done}
use Rattle.m2v_core.specs.declared.event.StepFault.TheVariants.{NotLawful}
use Rattle.m2v_core.specs.Core.{State, workers, answer, after, claim, publish, is_open, open_count, missing}

not_less : (a b : ℕ) → b ≤ a → ltb a b ≡ false
not_less a b h = grind (arith, nat_tests)

module _ {P : Type 0} (value : ℕ → P) (needs : ℕ → List ℕ) (s : State P) where
  pub claim_of_nobody : (w : ℕ) → workers s ≤ w → (Err (NotLawful w (workers s)) ≡ answer needs s (Claim w)) × (s ≡ after value needs s (Claim w))
  unfolding answer after
  claim_of_nobody w h = rw (not_less w (workers s) h) (refl, refl)

  pub claim_at_end : (w : ℕ) → w < workers s → s.next ≡ s.jobs → (Ok End ≡ answer needs s (Claim w)) × (s ≡ after value needs s (Claim w))
  unfolding answer after
  claim_at_end w h e = rw (lt-ltb w (workers s) h, not_less s.next s.jobs (omega arith)) (refl, refl)

  pub claim_drawn : (w : ℕ) → w < workers s → s.next < s.jobs → (Ok (Drawn s.next) ≡ answer needs s (Claim w)) × (claim s w ≡ after value needs s (Claim w))
  unfolding answer after
  claim_drawn w h l = rw (lt-ltb w (workers s) h, lt-ltb s.next s.jobs l) (refl, refl)

  pub publish_of_nobody : (w j : ℕ) → workers s ≤ w → (Err (NotLawful w (workers s)) ≡ answer needs s (Publish w j)) × (s ≡ after value needs s (Publish w j))
  unfolding answer after
  publish_of_nobody w j h = rw (not_less w (workers s) h) (refl, refl)

  pub publish_not_open : (w j : ℕ) → w < workers s → is_open s w j ≡ false → (Err (NotLawful j (open_count s w)) ≡ answer needs s (Publish w j)) × (s ≡ after value needs s (Publish w j))
  unfolding answer after
  publish_not_open w j h e = rw (lt-ltb w (workers s) h, e) (refl, refl)

  pub publish_missing : (w j need : ℕ) → w < workers s → is_open s w j ≡ true → missing s (needs j) ≡ Some need → (Err (NotLawful j need) ≡ answer needs s (Publish w j)) × (s ≡ after value needs s (Publish w j))
  unfolding answer after
  publish_missing w j need h e m = rw (lt-ltb w (workers s) h, e, m) (refl, refl)

  pub publish_done : (w j : ℕ) → w < workers s → is_open s w j ≡ true → missing s (needs j) ≡ None → (Ok Done ≡ answer needs s (Publish w j)) × (publish value s j ≡ after value needs s (Publish w j))
  unfolding answer after
  publish_done w j h e m = rw (lt-ltb w (workers s) h, e, m) (refl, refl)

pub ruleset claims = (claim_of_nobody, claim_at_end, claim_drawn)

pub ruleset publications = (publish_of_nobody, publish_not_open, publish_missing, publish_done)
