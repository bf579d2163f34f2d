-- The first peer of a group.
use Rattle.std.proofs.Common.{◌≡◌, ℕ, List, [], ◌∷◌, ◌++◌, Result, Ok, ap, ◌∙◌}
use Rattle.aprs_conf.specs.declared.errors.ConfFault.{ConfFault}
use Rattle.aprs_conf.specs.declared.types.PeerSpec.{PeerSpec}
use Rattle.aprs_conf.specs.Grammar.{peers_from, peer_of}
use Rattle.aprs_base.specs.ResultSteps.{◌>>=◌}

pub one_peer : (name address number : List ℕ) (peer : PeerSpec) (args rest more : List (List ℕ)) → args ≡ address ∷ rest → rest ≡ number ∷ more
    → peer_of name address number ≡ Ok peer → (peers : List PeerSpec) → peers_from peers (name ∷ args) ≡ peers_from (peers ++ peer ∷ []) more
one_peer name address number peer args rest more first second read peers =
    ap (λ words. peers_from peers (name ∷ words)) (first ∙ ap (λ words. address ∷ words) second)
    ∙ ap (λ (r : Result PeerSpec ConfFault). r >>= λ p. peers_from (peers ++ p ∷ []) more) read
