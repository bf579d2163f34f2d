-- A server that runs behind fronts sees the view of what happens, and their links are paid.
use Rattle.std.proofs.Common.{◌≡◌, ℕ, suc, ◌<◌, ◌||◌, Bool, true, false, List, [], ◌∷◌, ◌++◌, length, if◌then◌else◌, refl, sym, ap, ◌∙◌, subst, arith, Option, Some, None}
use Rattle.std.specs.Prelude.{IfSome, is_some}
use Rattle.std.proofs.lemmas.Bool.{false_from_ne_true, true≢false}
use Rattle.aprs_base.specs.Outside.{new_link}
use Rattle.aprs_base.specs.declared.events.Event.{Event}
use Rattle.aprs_base.specs.declared.events.Sent.{Sent}
use Rattle.aprs_base.specs.declared.events.Sent.TheVariants as sent
use Rattle.aprs_base.specs.declared.events.Happening.{Happening}
use Rattle.aprs_base.specs.declared.events.Happening.TheVariants as did
use Rattle.aprs_history.specs.Setting.{Setting}
use Rattle.aprs_history.specs.History.{History, greater_link, greatest_link, trace_of}
use Rattle.aprs_history.specs.Acts.{Act, Closes, IsRun, due}
use Rattle.aprs_history.specs.Headline.{HasFreshLinks}
use Rattle.http_submit.specs.Fronts.{TurnsBy}
use Rattle.http_submit.specs.Pools.{PoolSeen}
use Rattle.http_submit.specs.declared.pool.Owed.{Owed}
use Rattle.status_page.specs.PageFronts.{PageSeen, PoolTurns}
use Rattle.front_history.specs.Answers.{Answers, Duty, FrontState, FulfilsDuty, Hands, Steps, acts_for, acts_left, duties_for, duties_left, noted, noting, paid_by, published}
use Rattle.front_history.specs.Replies.{GetStatus, IsGetPart, IsPageReply, IsPostPart, IsPostReply, LinksArePaid, PageLinksArePaid, PostStatus, moment_in}
use Rattle.front_history.specs.Serving.{Ports, ports_of}
use Rattle.front_history.specs.Views.{HavePorts, IsNotTo, IsSeenAs, IsView, ServersSeeAll, ServersSeeViews, Views, is_theirs, opened_at, opened_from}
use Rattle.aprs_history.specs.Wired.{on_wire, wired_as}
use Rattle.front_history.proofs.CountedLemmas.{Counted, counted, page_is}
use Rattle.front_history.proofs.FrontLemmas.{hands_keep, steps_keep, unseen}
use Rattle.front_history.proofs.TurnLemmas.{IsAlike, SameOpenings, alike, front_moment, get_apart, opened_once, page_goes, post_apart, post_goes, same_link, same_moment, same_openings, seen_as}
use Rattle.front_history.proofs.OtherLemmas.{each_not_to}
use Rattle.front_history.proofs.ServesLemmas.{IsAct}
use Rattle.front_history.proofs.PortLemmas.{PortStands, closing_after, port_beside, port_closes, port_goes, port_replies}
use Rattle.front_history.proofs.WaitingLemmas.{IsFresh, act_fresh, act_greatest, act_moment, act_opens, fresh_act, none_settled}
use Rattle.front_history.proofs.WiredLemmas.{act_shown, not_to_shown}

-- ---- the acts that are left: perhaps a close, and then replies

abbrev closes_of : Option ℕ → List Act
closes_of None = []
closes_of (Some link) = Closes link ∷ []

abbrev closings_of : Option ℕ → List Duty
closings_of None = []
closings_of (Some link) = Duty.Close link ∷ []

not_empty : {X : Type 0} (x : X) (xs : List X) → x ∷ xs ≡ [] → ⊥
not_empty x xs is = let none : suc (length xs) ≡ 0 = ap length is in omega arith

no_acts : (closing : Option ℕ) (owing : List Owed) → closes_of closing ++ acts_for owing ≡ [] → (closing ≡ None) × (owing ≡ [])
no_acts None [] is = (refl, refl)
no_acts None (owed ∷ more) is = absurd (not_empty _ _ is)
no_acts (Some k) owing is = absurd (not_empty _ _ is)

no_duties : (closing : Option ℕ) (owing : List Owed) → closings_of closing ++ duties_for owing ≡ [] → (closing ≡ None) × (owing ≡ [])
no_duties None [] is = (refl, refl)
no_duties None (owed ∷ more) is = absurd (not_empty _ _ is)
no_duties (Some k) owing is = absurd (not_empty _ _ is)

-- nothing is closed where that is due only while nothing else is, and something is
none_closing : {X : Type 0} (P : Type 0) (closing : Option ℕ) (xs : List X) (first : X) (more : List X) → xs ≡ first ∷ more → (P → xs ≡ []) → IfSome closing (λ k. P) → closing ≡ None
none_closing P None xs first more is idle_then closes = refl
none_closing P (Some k) xs first more is idle_then closes = absurd (not_empty first more (sym is ∙ idle_then closes))

noting_pool : (x : Happening) (page : PageSeen) → (noting x page).pool ≡ page.pool
noting_pool (did.Event e) page = refl
noting_pool (did.Sent link bytes outcome) page = refl
noting_pool (did.Cast peer bytes) page = refl
noting_pool (did.Listen n) page = refl
noting_pool (did.Dialled uplink) page = refl
noting_pool (did.Closed link) page = refl

or_left : (a b : Bool) → a ≡ true → (a || b) ≡ true
or_left true b is = refl
or_left false b is = absurd (true≢false (sym is))

or_right : (a b : Bool) → b ≡ true → (a || b) ≡ true
or_right true b is = refl
or_right false b is = is

neither : (a b : Bool) → a ≡ false → b ≡ false → (a || b) ≡ false
neither true b is other = is
neither false b is other = other

module _ (s : Setting) (ports : Ports) (have : HavePorts s ports) where
  abbrev PageStands : History → PoolSeen → Option ℕ → List Owed → Type 0
  PageStands = PortStands ports.page GetStatus IsGetPart get_apart (IsPageReply s ports)

  abbrev PostStands : History → PoolSeen → Option ℕ → List Owed → Type 0
  PostStands = PortStands ports.upload PostStatus IsPostPart post_apart (IsPostReply ports)

  -- ---- what is seen

  record Shows (h seen : History) : Type 0 where
    pub view : IsView ports h (on_wire s seen)
    pub fresh : HasFreshLinks h
    pub openings : SameOpenings seen h
    pub greatest : greatest_link seen ≡ greatest_link h
    pub moment : moment_in seen ≡ moment_in h

  -- what is sent to links of a front isn't
  shows_front : (x : Happening) → IsAct x → (h seen : History) → Views ports x h (on_wire s seen) (on_wire s seen) → Shows h seen → Shows (x ∷ h) seen
  shows_front x act h seen views was = record {
    view = (on_wire s seen, was.view, views);
    fresh = fresh_act x act h was.fresh;
    openings = λ port k. was.openings port k ∙ sym (act_opens port x act h k);
    greatest = was.greatest ∙ sym (act_greatest x act h);
    moment = was.moment ∙ sym (act_moment x act h);
  }

  -- what the server does is
  views_server : (x : Happening) → IsAct x → (h rest : History) → IsNotTo ports.page h x → IsNotTo ports.upload h x → Views ports x h rest (x ∷ rest)
  views_server (did.Event e) act h rest page upload = absurd act
  views_server (did.Sent link bytes outcome) act h rest page upload = ap (λ b. if b then rest else did.Sent link bytes outcome ∷ rest) (sym (neither (opened_at ports.page h link) (opened_at ports.upload h link) page upload))
  views_server (did.Closed link) act h rest page upload = ap (λ b. if b then rest else did.Closed link ∷ rest) (sym (neither (opened_at ports.page h link) (opened_at ports.upload h link) page upload))
  views_server x act h rest page upload = refl

  shows_server : (x y : Happening) → IsAct x → IsAct y → (h rest : History) → x ≡ wired_as s (trace_of s rest) y → IsNotTo ports.page h x → IsNotTo ports.upload h x → Shows h rest → Shows (x ∷ h) (y ∷ rest)
  shows_server x y act did_act h rest shown page upload was = record {
    view = (on_wire s rest, was.view, subst (λ z. Views ports x h (on_wire s rest) (z ∷ on_wire s rest)) shown (views_server x act h (on_wire s rest) page upload));
    fresh = fresh_act x act h was.fresh;
    openings = λ port k. act_opens port y did_act rest k ∙ was.openings port k ∙ sym (act_opens port x act h k);
    greatest = act_greatest y did_act rest ∙ was.greatest ∙ sym (act_greatest x act h);
    moment = act_moment y did_act rest ∙ was.moment ∙ sym (act_moment x act h);
  }

  shows_event : (e up : Event) (h rest : History) → IsFresh h e → IsSeenAs ports.upload h e up → Shows h rest → Shows (did.Event e ∷ h) (did.Event up ∷ rest)
  shows_event e up h rest fresh seen was =
      let like = alike ports.upload h e up seen in
      let link = same_link ports.upload h e up like in
      record {
        view = (on_wire s rest, was.view, (up, seen, refl));
        fresh = (was.fresh, fresh);
        openings = same_openings ports.upload rest h e up like was.openings;
        greatest = ap (λ o. greater_link o (greatest_link rest)) link ∙ ap (greater_link (new_link e)) was.greatest;
        moment = same_moment ports.upload rest h e up like was.moment;
      }

  -- what isn't to links of a port before isn't to them now
  not_to_seen : (port : Option ℕ) (x : Happening) (h rest : History) → SameOpenings rest h → IsNotTo port (x ∷ rest) x → IsNotTo port h x
  not_to_seen port (did.Sent link bytes outcome) h rest same other = ap is_some (sym (same port link)) ∙ other
  not_to_seen port (did.Closed link) h rest same other = ap is_some (sym (same port link)) ∙ other
  not_to_seen port (did.Event e) h rest same other = tt
  not_to_seen port (did.Listen n) h rest same other = tt
  not_to_seen port (did.Dialled uplink) h rest same other = tt
  not_to_seen port (did.Cast peer bytes) h rest same other = tt

  -- nor is it shown to them
  none_shown : (port : Option ℕ) (x y : Happening) (h rest : History) → SameOpenings rest h → x ≡ wired_as s (trace_of s rest) y → IsNotTo port (y ∷ rest) y → IsNotTo port h x
  none_shown port x y h rest same shown other = subst (IsNotTo port h) (sym shown) (not_to_shown port h s (trace_of s rest) y (not_to_seen port y h rest same other))

  -- a link of one front is none of the other
  not_upload : (h : History) (k : ℕ) → HasFreshLinks h → opened_at ports.page h k ≡ true → opened_at ports.upload h k ≡ false
  not_upload h k fresh opened = false_from_ne_true (opened_at ports.upload h k) (λ other. opened_once ports.page ports.upload k have.apart h fresh opened other)

  not_page : (h : History) (k : ℕ) → HasFreshLinks h → opened_at ports.upload h k ≡ true → opened_at ports.page h k ≡ false
  not_page h k fresh opened = false_from_ne_true (opened_at ports.page h k) (λ other. opened_once ports.page ports.upload k have.apart h fresh other opened)

  sent_unseen : (h seen : History) (to : ℕ) (bytes : List ℕ) (outcome : Sent) → is_theirs ports h to ≡ true → Views ports (did.Sent to bytes outcome) h seen seen
  sent_unseen h seen to bytes outcome theirs = ap (λ b. if b then seen else did.Sent to bytes outcome ∷ seen) (sym theirs)

  closed_unseen : (h seen : History) (link : ℕ) → is_theirs ports h link ≡ true → Views ports (did.Closed link) h seen seen
  closed_unseen h seen link theirs = ap (λ b. if b then seen else did.Closed link ∷ seen) (sym theirs)

  -- ---- how all stands

  record Stands (h seen : History) (state : FrontState) (page_closing : Option ℕ) (page_owing : List Owed) (closing : Option ℕ) (owing : List Owed) : Type 0 where
    pub shows : Shows h seen
    pub page : PageStands h state.page.pool page_closing page_owing
    pub post : PostStands h state.front.pool closing owing
    pub duties : state.duties ≡ closings_of page_closing ++ duties_for page_owing
    pub acts : state.acts ≡ closes_of closing ++ acts_for owing
    pub page_alone : IfSome page_closing (λ k. due s seen ≡ [])
    pub alone : IfSome closing (λ k. (due s seen ≡ []) × (state.duties ≡ []))
    pub moment : IfSome ports.upload (λ n. state.front.moment ≡ moment_in h)

  abbrev Known : History → History → FrontState → Type 0
  Known h seen state = (page_closing : Option ℕ) × (page_owing : List Owed) × (closing : Option ℕ) × (owing : List Owed) × Stands h seen state page_closing page_owing closing owing

  -- ---- the fronts do their first act

  moment_kept : (port : Option ℕ) (x : Happening) → IsAct x → (h : History) (now : ℕ) → IfSome port (λ n. now ≡ moment_in h) → IfSome port (λ n. now ≡ moment_in (x ∷ h))
  moment_kept None x act h now is = tt
  moment_kept (Some n) x act h now is = is ∙ sym (act_moment x act h)

  -- the front for the page has done it
  page_done : (x : Happening) → IsAct x → (h rest : History) (before : FrontState) (page_closing now_closing : Option ℕ) (page_owing now_owing owing : List Owed) → due s rest ≡ [] → Views ports x h (on_wire s rest) (on_wire s rest) → IsNotTo ports.upload h x
      → Stands h rest before page_closing page_owing None owing → PageStands (x ∷ h) before.page.pool now_closing now_owing → duties_left x before.duties ≡ closings_of now_closing ++ duties_for now_owing
      → Stands (x ∷ h) rest (record before { duties = duties_left x before.duties }) now_closing now_owing None owing
  page_done x act h rest before page_closing now_closing page_owing now_owing owing idle_now views other was page left = record {
    shows = shows_front x act h rest views was.shows;
    page = page;
    post = port_beside ports.upload PostStatus IsPostPart post_apart (IsPostReply ports) x act h before.front.pool owing other was.post;
    duties = left;
    acts = was.acts;
    page_alone = alone now_closing;
    alone = tt;
    moment = moment_kept ports.upload x act h before.front.moment was.moment;
  }
    where
      alone : (closing : Option ℕ) → IfSome closing (λ k. due s rest ≡ [])
      alone None = tt
      alone (Some k) = idle_now

  -- the front for packets has
  post_done : (x : Happening) → IsAct x → (h rest : History) (before : FrontState) (closing now_closing : Option ℕ) (owing now_owing : List Owed) → due s rest ≡ [] → Views ports x h (on_wire s rest) (on_wire s rest) → IsNotTo ports.page h x
      → Stands h rest before None [] closing owing → PostStands (x ∷ h) before.front.pool now_closing now_owing → acts_left x before.acts ≡ closes_of now_closing ++ acts_for now_owing
      → Stands (x ∷ h) rest (record before { acts = acts_left x before.acts }) None [] now_closing now_owing
  post_done x act h rest before closing now_closing owing now_owing idle_now views other was post left = record {
    shows = shows_front x act h rest views was.shows;
    page = port_beside ports.page GetStatus IsGetPart get_apart (IsPageReply s ports) x act h before.page.pool [] other was.page;
    post = post;
    duties = was.duties;
    acts = left;
    page_alone = tt;
    alone = alone now_closing;
    moment = moment_kept ports.upload x act h before.front.moment was.moment;
  }
    where
      alone : (closing : Option ℕ) → IfSome closing (λ k. (due s rest ≡ []) × (before.duties ≡ []))
      alone None = tt
      alone (Some k) = (idle_now, was.duties)

  page_left : (to : ℕ) (bytes : List ℕ) (outcome : Sent) (first : Owed) (owing : List Owed)
      → duties_left (did.Sent to bytes outcome) (duties_for (first ∷ owing)) ≡ closings_of (closing_after outcome first.link) ++ duties_for owing
  page_left to bytes (sent.Took n) first owing = refl
  page_left to bytes sent.Gone first owing = refl

  post_left : (to : ℕ) (bytes : List ℕ) (outcome : Sent) (first : Owed) (owing : List Owed)
      → acts_left (did.Sent to bytes outcome) (acts_for (first ∷ owing)) ≡ closes_of (closing_after outcome first.link) ++ acts_for owing
  post_left to bytes (sent.Took n) first owing = refl
  post_left to bytes sent.Gone first owing = refl

  front_acts_by : (x : Happening) → IsAct x → (h rest : History) (before : FrontState) (page_closing : Option ℕ) (page_owing : List Owed) (closing : Option ℕ) (owing : List Owed) → due s rest ≡ [] → IsRun s rest → Counted s rest before.page
      → Stands h rest before page_closing page_owing closing owing → FulfilsDuty (record before.page { totals = published s rest }) (closings_of page_closing ++ duties_for page_owing) (closes_of closing ++ acts_for owing) x
      → Known (x ∷ h) rest (paid_by x (closings_of page_closing ++ duties_for page_owing) before)
  front_acts_by (did.Closed closed) act h rest before (Some k) page_owing None owing idle_now run counted_now was fulfils =
      let opened : opened_at ports.page h closed ≡ true = ap (opened_at ports.page h) fulfils ∙ was.page.took.0 in (
        None,
        page_owing,
        None,
        owing,
        page_done (did.Closed closed) tt h rest before (Some k) None page_owing page_owing owing idle_now
            (closed_unseen h (on_wire s rest) closed (or_left (opened_at ports.page h closed) (opened_at ports.upload h closed) opened))
            (not_upload h closed was.shows.fresh opened) was
            (port_closes ports.page GetStatus IsGetPart get_apart (IsPageReply s ports) h before.page.pool k closed page_owing fulfils was.page)
            (ap (duties_left (did.Closed closed)) was.duties),
      )
  front_acts_by x act h rest before (Some k) page_owing None owing idle_now run counted_now was fulfils = absurd fulfils
  front_acts_by x act h rest before (Some k) page_owing (Some j) owing idle_now run counted_now was fulfils = absurd (not_empty _ _ (sym was.duties ∙ was.alone.1))
  front_acts_by (did.Sent to bytes outcome) act h rest before None (first ∷ page_owing) None owing idle_now run counted_now was fulfils =
      let opened : opened_at ports.page h to ≡ true = ap (opened_at ports.page h) fulfils.0 ∙ was.page.pooled.owed.0.0 in
      let text : IsPageReply s ports h first.status bytes = (rest, run, was.shows.view, fulfils.1 ∙ page_is s rest before.page first.status counted_now) in (
        closing_after outcome first.link,
        page_owing,
        None,
        owing,
        page_done (did.Sent to bytes outcome) tt h rest before None _ (first ∷ page_owing) page_owing owing idle_now
            (sent_unseen h (on_wire s rest) to bytes outcome (or_left (opened_at ports.page h to) (opened_at ports.upload h to) opened))
            (not_upload h to was.shows.fresh opened) was
            (port_replies ports.page GetStatus IsGetPart get_apart (IsPageReply s ports) h before.page.pool first page_owing to bytes outcome fulfils.0 text was.page)
            (ap (duties_left (did.Sent to bytes outcome)) was.duties ∙ page_left to bytes outcome first page_owing),
      )
  front_acts_by x act h rest before None (first ∷ page_owing) None owing idle_now run counted_now was fulfils = absurd fulfils
  front_acts_by x act h rest before None (first ∷ page_owing) (Some j) owing idle_now run counted_now was fulfils = absurd (not_empty _ _ (sym was.duties ∙ was.alone.1))
  front_acts_by (did.Closed closed) act h rest before None [] (Some k) owing idle_now run counted_now was fulfils =
      let opened : opened_at ports.upload h closed ≡ true = ap (opened_at ports.upload h) fulfils ∙ was.post.took.0 in (
        None,
        [],
        None,
        owing,
        post_done (did.Closed closed) tt h rest before (Some k) None owing owing idle_now
            (closed_unseen h (on_wire s rest) closed (or_right (opened_at ports.page h closed) (opened_at ports.upload h closed) opened))
            (not_page h closed was.shows.fresh opened) was
            (port_closes ports.upload PostStatus IsPostPart post_apart (IsPostReply ports) h before.front.pool k closed owing fulfils was.post)
            (ap (acts_left (did.Closed closed)) was.acts),
      )
  front_acts_by x act h rest before None [] (Some k) owing idle_now run counted_now was fulfils = absurd fulfils
  front_acts_by (did.Sent to bytes outcome) act h rest before None [] None (first ∷ owing) idle_now run counted_now was fulfils =
      let opened : opened_at ports.upload h to ≡ true = ap (opened_at ports.upload h) fulfils.0 ∙ was.post.pooled.owed.0.0 in
      let text : IsPostReply ports h first.status bytes = (fulfils.1, none_settled ports.page GetStatus IsGetPart get_apart h was.page.waiting was.page.pooled) in (
        None,
        [],
        closing_after outcome first.link,
        owing,
        post_done (did.Sent to bytes outcome) tt h rest before None _ (first ∷ owing) owing idle_now
            (sent_unseen h (on_wire s rest) to bytes outcome (or_right (opened_at ports.page h to) (opened_at ports.upload h to) opened))
            (not_page h to was.shows.fresh opened) was
            (port_replies ports.upload PostStatus IsPostPart post_apart (IsPostReply ports) h before.front.pool first owing to bytes outcome fulfils.0 text was.post)
            (ap (acts_left (did.Sent to bytes outcome)) was.acts ∙ post_left to bytes outcome first owing),
      )
  front_acts_by x act h rest before None [] None (first ∷ owing) idle_now run counted_now was fulfils = absurd fulfils
  front_acts_by x act h rest before None [] None [] idle_now run counted_now was fulfils = absurd fulfils

  -- the server does one of its own, and neither front has anything to close
  server_acts : (x y : Happening) → IsAct x → IsAct y → (h rest : History) (before : FrontState) (page_owing owing : List Owed) → x ≡ wired_as s (trace_of s rest) y → IsNotTo ports.page h x → IsNotTo ports.upload h x
      → Stands h rest before None page_owing None owing → Stands (x ∷ h) (y ∷ rest) (noted x before) None page_owing None owing
  server_acts x y act did_act h rest before page_owing owing shown page upload was = record {
    shows = shows_server x y act did_act h rest shown page upload was.shows;
    page = subst (λ pool. PageStands (x ∷ h) pool None page_owing) (sym (noting_pool x before.page)) (port_beside ports.page GetStatus IsGetPart get_apart (IsPageReply s ports) x act h before.page.pool page_owing page was.page);
    post = port_beside ports.upload PostStatus IsPostPart post_apart (IsPostReply ports) x act h before.front.pool owing upload was.post;
    duties = was.duties;
    acts = was.acts;
    page_alone = tt;
    alone = tt;
    moment = moment_kept ports.upload x act h before.front.moment was.moment;
  }

  server_acts_by : (x y : Happening) → IsAct x → IsAct y → (h rest : History) (before : FrontState) (first : Act) (acts : List Act) → due s rest ≡ first ∷ acts → x ≡ wired_as s (trace_of s rest) y → IsRun s (y ∷ rest)
      → HasFreshLinks (y ∷ rest) → Known h rest before → Known (x ∷ h) (y ∷ rest) (noted x before)
  server_acts_by x y act did_act h rest before first acts is shown run fresh was =
      let page_closing = was.0 in
      let page_owing = was.1 in
      let closing = was.2 in
      let owing = was.3 in
      let all = was.4 in
      let page_none : page_closing ≡ None = none_closing (due s rest ≡ []) page_closing (due s rest) first acts is (λ none. none) all.page_alone in
      let none : closing ≡ None = none_closing ((due s rest ≡ []) × (before.duties ≡ [])) closing (due s rest) first acts is (λ both. both.0) all.alone in
      let open_now : Stands h rest before None page_owing None owing =
      subst (λ c. Stands h rest before None page_owing c owing) none (subst (λ c. Stands h rest before c page_owing closing owing) page_none all) in
      let page = none_shown ports.page x y h rest all.shows.openings shown (each_not_to s (y ∷ rest) ports.page have.page run fresh).0 in
      let upload = none_shown ports.upload x y h rest all.shows.openings shown (each_not_to s (y ∷ rest) ports.upload have.upload run fresh).0 in
      (None, page_owing, None, owing, server_acts x y act did_act h rest before page_owing owing shown page upload open_now)

  -- one happening more that is no event
  acted : (acts : List Act) (x : Happening) → IsAct x → (h rest seen : History) (before state : FrontState) → due s rest ≡ acts → Counted s rest before.page → (IsRun s rest → HasFreshLinks rest → Known h rest before)
      → IsRun s seen → HasFreshLinks seen → Steps s acts x before state rest seen → Known (x ∷ h) seen state
  acted [] x act h rest seen before state idle_now counted_now known run fresh steps =
      let was = known (subst (IsRun s) steps.3 run) (subst HasFreshLinks steps.3 fresh) in
      let all = was.4 in
      let fulfils = subst (λ xs. FulfilsDuty (record before.page { totals = published s rest }) before.duties xs x) all.acts steps.1 in
      let does = front_acts_by x act h rest before was.0 was.1 was.2 was.3 idle_now (subst (IsRun s) steps.3 run) counted_now all
      (subst (λ ds. FulfilsDuty (record before.page { totals = published s rest }) ds (closes_of was.2 ++ acts_for was.3) x) all.duties fulfils) in
      subst (λ st. Known (x ∷ h) seen st) (sym (steps.2 ∙ ap (λ ds. paid_by x ds before) all.duties)) (subst (λ hs. Known (x ∷ h) hs (paid_by x (closings_of was.0 ++ duties_for was.1) before)) (sym steps.3) does)
  acted (first ∷ acts) x act h rest seen before state is counted_now known run fresh steps =
      let y = steps.0 in
      let did_act = act_shown s (trace_of s rest) x y act steps.1 in
      let run_y = subst (IsRun s) steps.3 run in
      let fresh_y = subst HasFreshLinks steps.3 fresh in
      let was = known run_y.0 (act_fresh y did_act rest fresh_y) in
      subst (λ st. Known (x ∷ h) seen st) (sym steps.2) (subst (λ hs. Known (x ∷ h) hs (noted x before)) (sym steps.3) (server_acts_by x y act did_act h rest before first acts is steps.1 run_y fresh_y was))

  -- an event comes
  came : (e : Event) (h rest seen : History) (before state : FrontState) → ports_of before ≡ ports → (IsRun s rest → HasFreshLinks rest → Known h rest before) → Counted s seen state.page → IsRun s seen → HasFreshLinks seen
      → Hands s e before state rest seen → Known (did.Event e ∷ h) seen state
  came e h rest seen before state at known counted_now run fresh hands =
      let up = hands.up in
      let after = hands.after in
      let page_after = hands.page_after in
      let turns = subst (λ p. TurnsBy p before.front e after up) (ap (λ p. p.upload) at) hands.turns in
      let page_turns = subst (λ p. PoolTurns p page_after.moment before.page.pool up page_after.pool) (ap (λ p. p.page) at) hands.page_turns.pool in
      let fresh_up = subst HasFreshLinks hands.seen_is fresh in
      let found = known (subst (IsRun s) hands.seen_is run).0 fresh_up.0 in
      let all = found.4 in
      let page_none = no_duties found.0 found.1 (sym all.duties ∙ hands.done) in
      let none = no_acts found.2 found.3 (sym all.acts ∙ hands.paid) in
      let page_now : PageStands h before.page.pool None [] = subst (λ o. PageStands h before.page.pool None o) page_none.1 (subst (λ c. PageStands h before.page.pool c found.1) page_none.0 all.page) in
      let post_now : PostStands h before.front.pool None [] = subst (λ o. PostStands h before.front.pool None o) none.1 (subst (λ c. PostStands h before.front.pool c found.3) none.0 all.post) in
      let seen_up : IsSeenAs ports.upload h e up = seen_as ports.upload h e post_now.waiting before.front after up post_now.is post_now.pooled turns in
      let like : IsAlike ports.upload h e up = alike ports.upload h e up seen_up in
      let link = same_link ports.upload h e up like in
      let fresh_e : IsFresh h e = subst (λ g. IfSome (new_link e) (λ n. g < n)) all.shows.greatest (subst (λ o. IfSome o (λ n. greatest_link rest < n)) link fresh_up.1) in
      let shows : Shows (did.Event e ∷ h) seen = subst (Shows (did.Event e ∷ h)) (sym hands.seen_is) (shows_event e up h rest fresh_e seen_up all.shows) in
      let moment : page_after.moment ≡ moment_in (did.Event e ∷ h) = ap (λ st. st.page.moment) (sym hands.state_is) ∙ counted_now.moment ∙ shows.moment in
      let page_goes_on = page_goes ports.page ports.upload h (moment_in (did.Event e ∷ h)) e up page_now.waiting before.page.pool page_after.pool have.apart all.shows.fresh page_now.is page_now.pooled like
      (subst (λ m. PoolTurns ports.page m before.page.pool up page_after.pool) moment page_turns) in
      let post_goes_on = post_goes ports.upload h e before.front after up post_now.waiting post_now.is post_now.pooled all.moment turns in (
        None,
        page_after.pool.owed,
        None,
        after.pool.owed,
        record {
          shows = shows;
          page = subst (λ st. PageStands (did.Event e ∷ h) st.page.pool None page_after.pool.owed) (sym hands.state_is)
              (port_goes ports.page GetStatus IsGetPart get_apart (IsPageReply s ports) h e before.page.pool page_after.pool all.shows.fresh fresh_e page_now page_goes_on);
          post = subst (λ st. PostStands (did.Event e ∷ h) st.front.pool None after.pool.owed) (sym hands.state_is)
              (port_goes ports.upload PostStatus IsPostPart post_apart (IsPostReply ports) h e before.front.pool after.pool all.shows.fresh fresh_e post_now post_goes_on);
          duties = ap (λ st. st.duties) hands.state_is;
          acts = ap (λ st. st.acts) hands.state_is;
          page_alone = tt;
          alone = tt;
          moment = subst (λ st. IfSome ports.upload (λ n. st.front.moment ≡ moment_in (did.Event e ∷ h))) (sym hands.state_is) (front_moment ports.upload h e before.front after up all.moment turns);
        },
      )

  -- as the fronts are made
  at_first : (seen : History) (state : FrontState) → Answers s [] state seen → Known [] seen state
  at_first seen state answers = (
    None,
    [],
    None,
    [],
    record {
      shows = record {
        view = ap (on_wire s) answers.1;
        fresh = tt;
        openings = λ port k. ap (λ hs. opened_from port hs k) answers.1;
        greatest = ap greatest_link answers.1;
        moment = ap moment_in answers.1;
      };
      page = record { waiting = []; is = ap (λ st. st.page.pool) answers.0; pooled = record { waits = tt; few = omega arith; counts = λ k. refl; rises = omega arith; owed = tt; owing = omega arith }; took = tt; next = tt; paid = tt };
      post = record { waiting = []; is = ap (λ st. st.front.pool) answers.0; pooled = record { waits = tt; few = omega arith; counts = λ k. refl; rises = omega arith; owed = tt; owing = omega arith }; took = tt; next = tt; paid = tt };
      duties = ap (λ st. st.duties) answers.0;
      acts = ap (λ st. st.acts) answers.0;
      page_alone = tt;
      alone = tt;
      moment = first_moment ports.upload;
    },
  )
    where
      first_moment : (port : Option ℕ) → IfSome port (λ n. state.front.moment ≡ 0)
      first_moment None = tt
      first_moment (Some n) = ap (λ st. st.front.moment) answers.0

  known : (more seen : History) (state : FrontState) → Answers s more state seen → ports_of state ≡ ports → IsRun s seen → HasFreshLinks seen → Known more seen state
  known [] seen state answers at run fresh = at_first seen state answers
  known (did.Event e ∷ h) seen state answers at run fresh =
      let before = answers.0 in
      let port : ports_of before ≡ ports = hands_keep s e before state answers.1 seen answers.3 ∙ at in
      came e h answers.1 seen before state port (known h answers.1 before answers.2 port) (counted s (did.Event e ∷ h) seen state answers) run fresh answers.3
  known (x ∷ h) seen state answers at run fresh =
      let before = answers.0 in
      let port : ports_of before ≡ ports = steps_keep s (due s answers.1) x before state answers.1 seen answers.3 ∙ at in
      acted (due s answers.1) x tt h answers.1 seen before state refl (counted s h answers.1 before answers.2) (known h answers.1 before answers.2 port) run fresh answers.3

pub servers_see_views : ServersSeeViews
servers_see_views s more seen state ports answers at have run fresh = (known s ports have more seen state answers at run fresh).4.shows.view

pub links_are_paid : LinksArePaid
links_are_paid s more seen state ports answers at have run fresh = (known s ports have more seen state answers at run fresh).4.post.paid

pub page_links_are_paid : PageLinksArePaid
page_links_are_paid s more seen state ports answers at have run fresh = (known s ports have more seen state answers at run fresh).4.page.paid

pub servers_see_all : ServersSeeAll
servers_see_all s more seen state answers none = (unseen s more seen state none answers).shown
