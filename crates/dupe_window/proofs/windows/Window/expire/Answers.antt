use Rattle.std.proofs.Common.{List, ℕ, ◌∙◌, ap, subst, sym}
use Rattle.std.proofs.lemmas.Map.Made.{IsDistinct-keys_filter}
use Rattle.dupe_window.specs.Keys.{Key, is_same_key}
use Rattle.dupe_window.specs.Windows.{IsOnce, WindowSeen, expired, is_inside_pair, kept_pairs}
use Rattle.dupe_window.proofs.PartLemmas.{forgotten}
use Rattle.dupe_window.proofs.windows.Window.expire.Goals as goal

pub invariant_of-self : goal.invariant_of-self
invariant_of-self c =
    let fields = c.self.inside in (
      c.forget.ensures.older,
      c.forget.ensures.late,
      c.forget.ensures.inside,
      subst IsOnce
          (sym (forgotten fields.seconds fields.last c.args.now c.max-last.result fields.older.pairs fields.late.pairs c.forget.new.older.pairs c.forget.new.late.pairs c.max-last.ensures c.forget.ensures.kept))
          (IsDistinct-keys_filter is_same_key (is_inside_pair fields.seconds c.args.now) (kept_pairs fields.seconds fields.last fields.older.pairs fields.late.pairs) c.self.invariant.3),
      c.forget.ensures.hasher,
    )

pub returns : goal.returns
returns c =
    let fields = c.self.inside in
    let seen : List (Key × ℕ) → WindowSeen = λ pairs. record { pairs = pairs; seconds = fields.seconds } in
    ap seen (forgotten fields.seconds fields.last c.args.now c.max-last.result fields.older.pairs fields.late.pairs c.forget.new.older.pairs c.forget.new.late.pairs c.max-last.ensures c.forget.ensures.kept)
    ∙ ap (expired c.args.now) c.self.view_is
