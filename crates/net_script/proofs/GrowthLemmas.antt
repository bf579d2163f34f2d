-- What a line adds to a script.
use Rattle.std.proofs.Common.{◌≡◌, ℕ, ◌+◌, ◌≤◌, Bool, true, false, List, [], ◌∷◌, ◌++◌, length, Option, Some, None, Err, IfSome, refl, subst, arith, length-append}
use Rattle.aprs_base.specs.OptionSteps.{◌>>=◌}
use Rattle.net_history.specs.declared.events.Pair.{Pair}
use Rattle.net_history.specs.declared.events.PeerPair.{PeerPair}
use Rattle.net_script.specs.declared.errors.ScriptError.TheVariants as cause
use Rattle.net_script.specs.declared.types.ScriptServer.{ScriptServer}
use Rattle.net_script.specs.declared.types.ScriptStep.{ScriptStep}
use Rattle.net_script.specs.declared.words.LineWord.{LineWord}
use Rattle.net_script.specs.declared.words.LineWord.TheVariants as word
use Rattle.net_script.specs.Grammar.{after, parted, peer_in, peer_says, says, server_in, server_says, step_in, step_says, unless, uplink_in, uplink_says, word_of, is_begun}
use Rattle.net_script.specs.Reading.{drafted}
use Rattle.net_script.specs.Seen.{ScriptSeen}

-- what holds of each value that a step gives holds of what comes of it
pub each : {A B : Type 0} (P : B → Type 0) (o : Option A) (f : A → Option B) → ((x : A) → o ≡ Some x → IfSome (f x) P) → IfSome (o >>= f) P
each P None f h = tt
each P (Some x) f h = h x refl

pub unless_some : {A : Type 0} (P : A → Type 0) (bad : Bool) (o : Option A) → (bad ≡ false → IfSome o P) → IfSome (unless bad o) P
unless_some P true o h = tt
unless_some P false o h = h refl

-- a line adds one thing
pub data Growth (script new : ScriptSeen) : Type 0 where
  ByServer : (text : List ℕ) (server : ScriptServer) → server_in script text ≡ Some server → new ≡ record script { servers = script.servers ++ server ∷ [] } → Growth script new
  ByPair : (text : List ℕ) (pair : Pair) → uplink_in script text ≡ Some pair → new ≡ record script { pairs = script.pairs ++ pair ∷ [] } → Growth script new
  ByPeers : (text : List ℕ) (pair : PeerPair) → peer_in script text ≡ Some pair → new ≡ record script { peers = script.peers ++ pair ∷ [] } → Growth script new
  ByStep : (number : ℕ) (step : ScriptStep) → new ≡ record script { steps = script.steps ++ record { number = number; step = step } ∷ [] } → Growth script new

said : (w : LineWord) (number : ℕ) (script : ScriptSeen) (text : List ℕ) → IfSome (says w number script text) (Growth script)
unfolding server_says uplink_says peer_says step_says
said word.Server number script text = unless_some (Growth script) (is_begun script) _ (λ _. each (Growth script) (server_in script text) _ (λ server e. ByServer text server e refl))
said word.Uplink number script text = unless_some (Growth script) (is_begun script) _ (λ _. each (Growth script) (uplink_in script text) _ (λ pair e. ByPair text pair e refl))
said word.Peer number script text = unless_some (Growth script) (is_begun script) _ (λ _. each (Growth script) (peer_in script text) _ (λ pair e. ByPeers text pair e refl))
said (word.Step verb) number script text = each (Growth script) (step_in verb script text) _ (λ step e. ByStep number step refl)

pub grows : (number : ℕ) (script : ScriptSeen) (line : List ℕ) → IfSome (after number script line) (Growth script)
unfolding after
grows number script line = each (Growth script) (parted line) _ (λ words e. each (Growth script) (word_of words.0) _ (λ w e. said w number script words.1))

-- so one server or pair at most
pub record GrowsByOne (script new : ScriptSeen) : Type 0 where
  pub servers : length new.servers ≤ length script.servers + 1
  pub pairs : length new.pairs ≤ length script.pairs + 1

pub by_one : (script new : ScriptSeen) → Growth script new → GrowsByOne script new
by_one script new (ByServer text server e is) = rw is (record { servers = omega (arith, length-append {A = ScriptServer}); pairs = omega arith })
by_one script new (ByPair text pair e is) = rw is (record { servers = omega arith; pairs = omega (arith, length-append {A = Pair}) })
by_one script new (ByPeers text pair e is) = rw is (record { servers = omega arith; pairs = omega arith })
by_one script new (ByStep number step is) = rw is (record { servers = omega arith; pairs = omega arith })

-- the lines behind one that is good go on from what it makes
pub drafted_on : (number : ℕ) (script new : ScriptSeen) (line : List ℕ) (lines : List (List ℕ)) → after number script line ≡ Some new
    → drafted number script (line ∷ lines) ≡ drafted (number + 1) new lines
drafted_on number script new line lines e = rw e refl

-- and one that is bad is the first
pub drafted_bad : (number : ℕ) (script : ScriptSeen) (line : List ℕ) (lines : List (List ℕ)) → after number script line ≡ None
    → drafted number script (line ∷ lines) ≡ Err (cause.BadStep number)
drafted_bad number script line lines e = rw e refl

pub grows_to : (number : ℕ) (script new : ScriptSeen) (line : List ℕ) → after number script line ≡ Some new → GrowsByOne script new
grows_to number script new line e = by_one script new (subst (λ o. IfSome o (Growth script)) e (grows number script line))
