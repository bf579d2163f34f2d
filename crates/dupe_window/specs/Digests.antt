-- Keys with digests, which a hasher with random keys makes of their texts.
use Rattle.std.specs.Prelude.{ℕ, ◌≡◌, ◌==◌, ◌&&◌, Bool, List, map, All}
use Rattle.std.specs.Hash.DefaultHasher as sip
use Rattle.std.specs.RandomState.{initial_hasher}
use Rattle.std.specs.declared.random_state.RandomState.{RandomState}
use Rattle.dupe_window.specs.Keys.{Key, is_text}
use Rattle.dupe_window.specs.Packed.{packed, unpacked}

pub record DigestedKey : Type 0 where
  pub key : Key
  pub digest : ℕ

pub record DigestedText : Type 0 where
  pub text : List ℕ
  pub digest : ℕ

abbrev pub digest_by : RandomState → List ℕ → ℕ
digest_by hasher text = sip.finish (sip.write (initial_hasher hasher) text)

-- a key with its digest
abbrev pub digested_by : RandomState → Key → DigestedKey
digested_by hasher key = record { key = key; digest = digest_by hasher (packed key) }

-- the digest of a key is the one that this hasher makes
abbrev pub IsDigestedBy : RandomState → DigestedKey → Type 0
IsDigestedBy hasher digested = digested ≡ digested_by hasher digested.key

abbrev pub text_of : DigestedKey → DigestedText
text_of digested = record { text = packed digested.key; digest = digested.digest }

abbrev pub is_same_text : DigestedText → DigestedText → Bool
is_same_text a b = a.digest == b.digest && is_text a.text b.text

abbrev pub is_same_digested : DigestedKey → DigestedKey → Bool
is_same_digested a b = is_same_text (text_of a) (text_of b)

-- ---- pairs

-- keys with their moments, in the order in which they came, and by what their digests are made
pub record PairsSeen : Type 0 where
  pub pairs : List (Key × ℕ)
  pub hasher : RandomState

abbrev pub unpacked_pair : DigestedText × ℕ → Key × ℕ
unpacked_pair pair = (unpacked pair.0.text, pair.1)

abbrev pub unpacked_pairs : List (DigestedText × ℕ) → List (Key × ℕ)
unpacked_pairs pairs = map unpacked_pair pairs

-- each is the text of a key with the digest of that
abbrev pub AreDigestedBy : RandomState → List (DigestedText × ℕ) → Type 0
AreDigestedBy hasher pairs = All (λ pair. text_of (digested_by hasher (unpacked pair.0.text)) ≡ pair.0) pairs
