-- The formats of bodies as grammars: which texts write which body, apart from how they are read
-- (APRS Protocol Reference 1.0.1, APRS Data Type Identifiers, and the formats of each).
use Rattle.std.specs.Prelude.{◌≡◌, ◌≢◌, ℕ, ◌+◌, ◌≤◌, ◌⊎◌, Bool, true, false, not, List, [], ◌∷◌, ◌++◌, length, codes, Some, None, IsTrue, ⊤}
use Rattle.std.specs.List.{list_all}
use Rattle.std.specs.Str.{byte}
use Rattle.std.specs.declared.option.Option.{Option}
use Rattle.aprs_base.specs.Bytes.{is_blank}
use Rattle.aprs_base.specs.declared.packets.Body.{Body}
use Rattle.aprs_base.specs.declared.packets.Place.{Place}
use Rattle.aprs_position.specs.Grammar.{BeginsPosition}
use Rattle.mic_e.specs.Grammar.{IsMicE}
use Rattle.aprs_body.specs.Bodies.{is_item_mark}
use Rattle.aprs_body.specs.Classes.{item_bit, message_bit, nws_bit, object_bit, position_bit, query_bit, status_bit, telemetry_bit, user_bit, weather_bit}

-- a class that is added exactly where a fact holds
abbrev pub Adds : (bit : ℕ) → Type 0 → (class : ℕ) → Type 0
Adds bit holds class = (holds × (class ≡ bit)) ⊎ ((holds → ⊥) × (class ≡ 0))

-- a symbol with the code `_` is a weather station's
abbrev pub AddsWeather : Option Place → (class : ℕ) → Type 0
AddsWeather None class = class ≡ 0
AddsWeather (Some place) class = Adds weather_bit (place.code ≡ byte "_") class

-- the text begins with that word
abbrev pub BeginsWith : List ℕ → List ℕ → Type 0
BeginsWith word text = (rest : List ℕ) × (text ≡ word ++ rest)

-- names of the National Weather Service begin with `NWS`
abbrev pub AddsService : (name : List ℕ) (class : ℕ) → Type 0
AddsService name class = Adds nws_bit (BeginsWith (codes "NWS") name) class

-- a sign that says live, or `_`, which says killed
abbrev pub SaysLife : (sign mark : ℕ) → Bool → Type 0
SaysLife sign mark live = ((mark ≡ sign) × (live ≡ true)) ⊎ ((mark ≡ byte "_") × (live ≡ false))

-- the last byte, where there is one, is no blank
abbrev pub EndsTight : List ℕ → Type 0
EndsTight [] = ⊤
EndsTight (b ∷ []) = b ≢ byte " "
EndsTight (b ∷ c ∷ more) = EndsTight (c ∷ more)

-- a field that a text fills up to blanks
pub record Padded (text field : List ℕ) : Type 0 where
  pub blanks : List ℕ
  pub split : field ≡ text ++ blanks
  pub blank : IsTrue (list_all is_blank blanks)
  pub tight : EndsTight text

-- where a position report has its place: behind its mark, behind seven bytes of time, or in the form Mic-E
pub data ReportsPlace (dest text : List ℕ) (place : Place) : Type 0 where
  untimed : (mark : ℕ) (rest : List ℕ) → (mark ≡ byte "!") ⊎ (mark ≡ byte "=") → text ≡ mark ∷ rest → BeginsPosition rest place → ReportsPlace dest text place
  timed : (mark : ℕ) (time rest : List ℕ) → (mark ≡ byte "/") ⊎ (mark ≡ byte "@") → text ≡ mark ∷ (time ++ rest) → length time ≡ 7 → BeginsPosition rest place →
      ReportsPlace dest text place
  mic_e : IsMicE dest text place → ReportsPlace dest text place

-- the place that a report has, or none where it has none
abbrev pub IsPlaceOf : (dest text : List ℕ) → Option Place → Type 0
IsPlaceOf dest text (Some place) = ReportsPlace dest text place
IsPlaceOf dest text None = (place : Place) → ReportsPlace dest text place → ⊥

-- a position report, by its mark alone: `!`, `=`, `/`, `@`, a grave accent or an apostrophe
pub record IsReport (dest text : List ℕ) (says : Body) : Type 0 where
  pub mark : ℕ
  pub rest : List ℕ
  pub weather : ℕ
  pub mark_is : (mark ≡ byte "!") ⊎ (mark ≡ byte "=") ⊎ (mark ≡ byte "/") ⊎ (mark ≡ byte "@") ⊎ (mark ≡ byte "`") ⊎ (mark ≡ byte "'")
  pub spelled : text ≡ mark ∷ rest
  pub place : IsPlaceOf dest text says.place
  pub adds : AddsWeather says.place weather
  pub says_is : says ≡ record { class = position_bit + weather; place = says.place; name = None; live = false; to = None }

-- an object: `;`, nine bytes of name, `*` or `_`, seven bytes of time, and a position
pub record IsObject (text : List ℕ) (says : Body) : Type 0 where
  pub field : List ℕ
  pub name : List ℕ
  pub mark : ℕ
  pub time : List ℕ
  pub rest : List ℕ
  pub place : Place
  pub live : Bool
  pub service : ℕ
  pub weather : ℕ
  pub spelled : text ≡ byte ";" ∷ (field ++ (mark ∷ (time ++ rest)))
  pub lengths : (length field ≡ 9) × (length time ≡ 7)
  pub padded : Padded name field
  pub life : SaysLife (byte "*") mark live
  pub position : BeginsPosition rest place
  pub adds : AddsService field service × AddsWeather (Some place) weather
  pub says_is : says ≡ record { class = object_bit + service + weather; place = Some place; name = Some name; live = live; to = None }

-- an item: `)`, three to nine bytes of name, `!` or `_`, which no name has, and a position
pub record IsItem (text : List ℕ) (says : Body) : Type 0 where
  pub name : List ℕ
  pub mark : ℕ
  pub rest : List ℕ
  pub place : Place
  pub live : Bool
  pub weather : ℕ
  pub spelled : text ≡ byte ")" ∷ (name ++ (mark ∷ rest))
  pub unmarked : IsTrue (list_all (λ b. not (is_item_mark b)) name)
  pub sized : (3 ≤ length name) × (length name ≤ 9)
  pub life : SaysLife (byte "!") mark live
  pub position : BeginsPosition rest place
  pub adds : AddsWeather (Some place) weather
  pub says_is : says ≡ record { class = item_bit + weather; place = Some place; name = Some name; live = live; to = None }

-- the words that make a message a telemetry station's definitions
abbrev pub IsDefinitions : List ℕ → Type 0
IsDefinitions words = BeginsWith (codes "PARM.") words ⊎ BeginsWith (codes "UNIT.") words ⊎ BeginsWith (codes "EQNS.") words ⊎ BeginsWith (codes "BITS.") words

abbrev pub IsMessageClass : (words : List ℕ) (class : ℕ) → Type 0
IsMessageClass words class = (IsDefinitions words × (class ≡ telemetry_bit)) ⊎ ((IsDefinitions words → ⊥) × (class ≡ message_bit))

-- a message: `:`, nine bytes of receiver, `:` and words
pub record IsMessage (text : List ℕ) (says : Body) : Type 0 where
  pub field : List ℕ
  pub to : List ℕ
  pub words : List ℕ
  pub kind : ℕ
  pub service : ℕ
  pub spelled : text ≡ byte ":" ∷ (field ++ (byte ":" ∷ words))
  pub nine : length field ≡ 9
  pub padded : Padded to field
  pub class : IsMessageClass words kind
  pub adds : AddsService field service
  pub says_is : says ≡ record { class = kind + service; place = None; name = None; live = false; to = Some to }

-- a body that says no more than its class
abbrev pub SaysClass : ℕ → Body → Type 0
SaysClass class says = says ≡ record { class = class; place = None; name = None; live = false; to = None }

-- what a text in one of the formats says
pub data IsSaid (dest text : List ℕ) (says : Body) : Type 0 where
  report : IsReport dest text says → IsSaid dest text says
  object : IsObject text says → IsSaid dest text says
  item : IsItem text says → IsSaid dest text says
  message : IsMessage text says → IsSaid dest text says
  status : BeginsWith (codes ">") text → SaysClass status_bit says → IsSaid dest text says
  telemetry : BeginsWith (codes "T#") text → SaysClass telemetry_bit says → IsSaid dest text says
  weather : BeginsWith (codes "_") text → SaysClass weather_bit says → IsSaid dest text says
  user_defined : BeginsWith (codes "{") text → SaysClass user_bit says → IsSaid dest text says
  query : BeginsWith (codes "?") text → SaysClass query_bit says → IsSaid dest text says

-- a text says what it says in one of the formats, and else it has no class
abbrev pub IsBody : (dest text : List ℕ) → Body → Type 0
IsBody dest text says = IsSaid dest text says ⊎ (((other : Body) → IsSaid dest text other → ⊥) × SaysClass 0 says)
