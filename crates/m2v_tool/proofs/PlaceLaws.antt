-- What follows from how the place for a file beside output was opened.
use Rattle.std.proofs.Common.{◌≡◌, ℕ, List, Option, Some, None, refl, subst}
use Rattle.std.specs.Prelude.{IsFalse}
use Rattle.clap.specs.Walk.{Text}
use Rattle.m2v_port.specs.Ends.{Change}
use Rattle.m2v_port.specs.Port.{Grows, GrowsByPrefix}
use Rattle.m2v_port.specs.declared.error.PortError.{PortError}
use Rattle.m2v_port.specs.declared.error.PortError.TheVariants as calls
use Rattle.m2v_tool.specs.Places.{recon_by, Shut}
use Rattle.m2v_tool.specs.Runs.{Work}

-- a place that wasn't opened
pub shut_of : (e : PortError) (k : Work) → (e ≡ calls.Failed → k.recon.Failed) → IsFalse k.place.ready → k.recon.new ≡ k.recon.old → k.input.Unchanged → k.output.Unchanged → Shut e k
shut_of calls.Failed k rose shut same input output = (rose refl, shut, same, input, output)
shut_of calls.Memory k rose shut same input output = (shut, same, input, output)

-- opening is no change of what is held: what grew since then grew since before
pub grown_from : {before between now : Option (List ℕ)} {bytes : List ℕ} → between ≡ before → Grows between bytes now → Grows before bytes now
grown_from {before} {between} {now} {bytes} same g = subst (λ (o : Option (List ℕ)). Grows o bytes now) same g

pub prefix_from : {before between now : Option (List ℕ)} {bytes : List ℕ} → between ≡ before → GrowsByPrefix between bytes now → GrowsByPrefix before bytes now
prefix_from {before} {between} {now} {bytes} same g = subst (λ (o : Option (List ℕ)). GrowsByPrefix o bytes now) same g

-- it fails by its name alone
pub failed_of : (name : Option Text) (c : Change) → (recon_by name c).Failed → c.Failed
failed_of (Some name) c failed = failed
failed_of None c failed = absurd failed

pub failed_by : (name : Option Text) (c : Change) → (name ≡ None → ⊥) → c.Failed → (recon_by name c).Failed
failed_by (Some name) c named failed = failed
failed_by None c named failed = absurd (named refl)
