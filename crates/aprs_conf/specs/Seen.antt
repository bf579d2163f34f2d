-- Configurations as contracts see them.
use Rattle.std.specs.Prelude.{ℕ, List, Option}
use Rattle.aprs_base.specs.UplinkSeen.{UplinkSeen}
use Rattle.aprs_base.specs.declared.texts.Addr.{Addr}
use Rattle.aprs_conf.specs.declared.types.Listen.{Listen}
use Rattle.aprs_conf.specs.declared.types.PeerSpec.{PeerSpec}

pub record ConfSeen : Type 0 where
  pub server : List ℕ
  pub code : ℕ
  pub admin : List ℕ
  pub email : List ℕ
  pub listens : List Listen
  pub upload : Option Addr
  pub page : Option Addr
  pub uplinks : List UplinkSeen
  pub group : Option Addr
  pub peers : List PeerSpec
  pub up_timeout : ℕ
  pub client_timeout : ℕ
  pub max_clients : ℕ
  pub dupe_window : ℕ

-- what the lines so far have said
pub record DraftSeen : Type 0 where
  pub server : Option (List ℕ)
  pub code : Option ℕ
  pub admin : Option (List ℕ)
  pub email : Option (List ℕ)
  pub listens : List Listen
  pub upload : Option Addr
  pub page : Option Addr
  pub uplinks : List UplinkSeen
  pub group : Option Addr
  pub peers : List PeerSpec
  pub up_timeout : Option ℕ
  pub client_timeout : Option ℕ
  pub max_clients : Option ℕ
  pub dupe_window : Option ℕ
