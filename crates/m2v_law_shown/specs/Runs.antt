-- Parts one behind another: what they do to the frames at hand, and what they tell.
use Rattle.std.specs.Prelude.{ℕ, zero, suc, ◌≡◌, false, List, [], ◌∷◌, ◌++◌, map, All, nat_eq, if◌then◌else◌, Some}
use Rattle.m2v_plane.specs.Samples.{Samples}
use Rattle.m2v_plane.specs.Raw.{crop}
use Rattle.m2v_set.specs.declared.settings.Settings.{Settings}
use Rattle.m2v_slice.specs.Books.{Book, job_at}
use Rattle.m2v_model.specs.declared.state.State.{State}
use Rattle.m2v_model.specs.Samples.{References}
use Rattle.m2v_model.specs.Streams.{Part}
use Rattle.m2v_model.specs.Pictures.{Store, Picture, Events, closed, picture_ended, events_from, store_from, frames_in}
use Rattle.m2v_enc_stream.specs.Trees.{state_behind}
use Rattle.m2v_law_shown.specs.Stores.{frame_in}
use Rattle.m2v_law_shown.specs.Telling.{told_all, IsMade}
use Rattle.m2v_law_shown.specs.Told.{Made, picture_in}

-- parts lead from a state and the frames at hand to others, and tell these events
pub record Goes (st : State) (store : Store) (parts : List Part) (end : State) (left : Store) (es : Events) : Type 0 where
  pub state : state_behind st parts ≡ end
  pub frames : store_from st store parts ≡ left
  pub events : events_from st store parts ≡ es

-- the picture that is open, told where it ends
abbrev pub pending : State → Store → Events
pending st store = closed st.picture store

-- the frames at hand once it ends
abbrev pub settled : State → Store → Store
settled st store = picture_ended st.picture store

-- the picture of a job isn't dropped
abbrev pub IsKept : Made → Type 0
IsKept m = m.1.dropped ≡ false

-- parts lead from a state and the frames at hand to others, and tell these jobs with their pictures: behind the picture that
-- was open before, and the last one where it ends; none of them is dropped
pub record Tells (s : Settings) (st : State) (store : Store) (parts : List Part) (end : State) (left : Store) (made : List Made) : Type 0 where
  pub es : Events
  pub goes : Goes st store parts end left es
  pub known : es ++ pending end left ≡ pending st store ++ told_all s made
  pub are : All (IsMade s) made
  pub kept : All IsKept made

-- the frames at hand with the frame of the picture that is open, and its references
abbrev pub store_with : Store → Samples → References → Store
store_with store frame refs = record { older = store.older; newer = store.newer; current = Some frame; references = refs }

-- the raw frames that the pictures of jobs end, each with its type
abbrev pub raw_of : Picture × ℕ → List ℕ × ℕ
raw_of f = (crop f.0.frame, f.1)

abbrev pub raw_in : List Made → List (List ℕ × ℕ)
raw_in made = map raw_of (frames_in (map picture_in made))

-- those that the first n pictures of a group end
unfoldable pub raw_behind : Book → ℕ → List (List ℕ × ℕ)
raw_behind b zero = []
raw_behind b (suc n) =
    raw_behind b n
    ++ (if nat_eq (job_at b n).structure 1 then [] else (crop (frame_in b (job_at b n).frame), (job_at b n).kind) ∷ [])
