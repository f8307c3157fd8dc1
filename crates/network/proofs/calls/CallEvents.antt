-- Each call whose first refusals are passed: an event at one unit, or at each end of a link.
use Prim.Native.Nat.{ℕ, ◌<◌}
use mathlib.Core.Bool.{Bool, true, false, ◌&&◌}
use mathlib.Core.List.{List, []}
use mathlib.Core.Logic.{◌≢◌, inl, inr}
use mathlib.Core.Path.{◌≡◌, refl, sym, ap, ◌∙◌}
use Rattle.ground.specs.Limits.{firmware_room, legal_cost}
use Rattle.ground.specs.Refusal.{accepted, answer_base}
use Rattle.ground.specs.Rows.{at}
use Rattle.rules.specs.Event.{Event, link_up, new_cost, link_down, reaction}
use Rattle.rules.specs.Hub.{hub_up, hub_cost, hub_down, table_answer}
use Rattle.rules.specs.Network.{Network, fresh, up, cost, down, unit_at, queue, is_up, with_queue, reacted, happens, outcome}
use Rattle.rules.specs.NetworkTable.{network_refusal}
use Rattle.rules.specs.Tables.{network_from, fit_tables}
use Rattle.rules.specs.Unit.{Unit}
use Rattle.rules.proofs.Fit.{FitNetwork, fit_tables_of, fit_network_shaped}
use Rattle.rules.proofs.LaidNetwork.{ShapedNetwork}
use Rattle.steps.proofs.AcceptedCalls.{Ends, AcceptedUp, AcceptedCost, AcceptedDown}
use Rattle.ground.proofs.Cases.{by_equal}
use Rattle.steps.proofs.NetworkLists.{Shape, queue_elsewhere, unit_elsewhere, shape_queue, emptied, emptied_back, emptied_there}
use Rattle.steps.proofs.OrderlyCalls.{turned}
use Rattle.steps.proofs.SentMessages.{down_silent}
use Rattle.queues.proofs.SentParcels.{sent_by}
use Rattle.fitness.specs.UnitTables.{table_of}
use Rattle.events.specs.Happening.{emptied_if}
use Rattle.events.specs.Telling.{told_by}
use Rattle.network.specs.FirstRefusals.{first_refusal}
use Rattle.events.specs.declared.tell.Told.{Told}
use Rattle.events.proofs.HeldNetwork.{Tabled, fit_tabled, cleared}
use Rattle.events.proofs.LaidTables.{shape_of}
use Rattle.events.proofs.MessageRoom.{fits, fits_same}
use Rattle.network.proofs.calls.CallAnswers.{Answered, refused_early}
use Rattle.network.proofs.calls.EventTrials.{accepts_up, accepts_cost, accepts_down, trial, never_refused}
use Rattle.network.proofs.calls.FirstRefusals.{up_parts, cost_parts, down_parts, up_passed, cost_passed, link_passed}
use Rattle.network.proofs.calls.OneEvent.{One}
use Rattle.network.proofs.calls.TwoEvents.{Pair}

-- Of two events at two units the second is the same as if the first had not happened.
two_happen : {n : ℕ} {net : Network} → Shape n net → {a b : ℕ} → Ends n a b → (ea eb : Event)
    → happens (happens net a ea) b eb
    ≡ reacted (reacted net a (reaction (unit_at net a) ea)) b (reaction (unit_at net b) eb)
unfolding happens
two_happen {n} {net} shape {a} {b} t ea eb =
    ap (λ (u : Unit). reacted (reacted net a (reaction (unit_at net a) ea)) b (reaction u eb))
    (unit_elsewhere net a (reaction (unit_at net a) ea) b (turned t).differ)

-- A unit whose link to b goes down sends it nothing, so its messages find room as well where the queue to b is empty, and the
-- others as they are.
down_room : {net : Network} → ShapedNetwork net → {a b : ℕ} → Ends net.count a b → (other : Network)
    → other.count ≡ net.count → queue other a b ≡ [] → ((y : ℕ) → y ≢ b → queue other a y ≡ queue net a y)
    → fits other a (reaction (unit_at net a) (link_down b)) ≡ fits net a (reaction (unit_at net a) (link_down b))
down_room {net} s {a} {b} t other counted empty others =
    fits_same net other s counted a t.first (reaction (unit_at net a) (link_down b)) (λ y h.
    by_equal y b
    (λ e. inr (
      ap (queue other a) e ∙ empty,
      ap (sent_by (reaction (unit_at net a) (link_down b))) e
          ∙ down_silent (unit_at net a) (s.unit a t.first) b (rw (s.counts a t.first) t.second),
    ))
    (λ d. inl (others y d)))

-- A network with both queues of a link emptied.
module _ {n : ℕ} {net : Network} (shape : Shape n net) {a b : ℕ} (t : Ends n a b) where
  -- With one of them emptied its lists keep their places.
  half_shape : Shape n (with_queue net a b [])
  half_shape = shape_queue n net shape a b [] t.first t.second

  -- So they do with both.
  emptied_shape : Shape n (emptied net a b)
  emptied_shape = shape_queue n (with_queue net a b []) half_shape b a [] t.second t.first

  -- Any other queue stays.
  emptied_elsewhere : (x y : ℕ) → (x ≡ a → y ≡ b → ⊥) → (x ≡ b → y ≡ a → ⊥)
      → queue (emptied net a b) x y ≡ queue net x y
  emptied_elsewhere x y d e =
      queue_elsewhere n (with_queue net a b []) half_shape b a [] t.second t.first x y e
      ∙ queue_elsewhere n net shape a b [] t.first t.second x y d

module _ (words bytes : List ℕ) (a b : ℕ) where
  -- The network that the tables hold.
  abbrev net : Network
  net = network_from words bytes

  -- Its count.
  abbrev n : ℕ
  n = at words 0

  -- The first refusals, where the costs are found legal or not.
  module _ {legal test : Bool} (tested : legal ≡ test) (opens : Bool) {number : ℕ}
      (first : number ≡ first_refusal words bytes a b legal opens) where
    -- They are those by the rules' test.
    by_rules : number ≡ first_refusal words bytes a b test opens
    by_rules = first ∙ ap (λ (t : Bool). first_refusal words bytes a b t opens) tested

  -- A cost that is refused early.
  pub cost_refused : (c : ℕ) {legal : Bool} → legal ≡ legal_cost c → {number : ℕ}
      → number ≡ first_refusal words bytes a b legal false → number ≢ accepted
      → Answered words bytes (cost a b c) number words bytes
  unfolding network_refusal
  cost_refused c tested first d =
      refused_early words bytes (cost a b c) (first_refusal words bytes a b (legal_cost c) false)
      (cost_parts words bytes a b _ c) (by_rules tested false first) d

  -- Else it is an event at a.
  pub cost_one : (c : ℕ) {legal : Bool} → legal ≡ legal_cost c → {number : ℕ}
      → number ≡ first_refusal words bytes a b legal false → number ≡ accepted
      → {told : Told} → told ≡ told_by (table_of words a) (hub_cost b c) → One words bytes (cost a b c) net a told
  unfolding network_refusal network_from outcome happens
  cost_one c tested first z p =
      let none : first_refusal words bytes a b (legal_cost c) false ≡ accepted = sym (by_rules tested false first) ∙ z in
      let known : (fit_tables words bytes ≡ true) × AcceptedCost net a b _ c = cost_passed words bytes a b c none in
      let f : FitNetwork net = fit_tables_of words bytes known.0 in
      let t : Ends n a b = known.1.ends in
      record {
        early = first_refusal words bytes a b (legal_cost c) false;
        parts = cost_parts words bytes a b _ c;
        none = none;
        does = reaction (unit_at net a) (new_cost b c);
        tries =
            trial words bytes known.0 a t.first (hub_cost b c)
            (accepts_cost net f a b t known.1.cost known.1.opened) p;
        shape = shape_of (fit_network_shaped words bytes known.0);
        room = refl;
        leads = refl;
      }

  -- Its unit refuses nothing.
  pub cost_never : (c : ℕ) {legal : Bool} → legal ≡ legal_cost c → {number : ℕ}
      → number ≡ first_refusal words bytes a b legal false → number ≡ accepted
      → {answer : ℕ} → answer ≡ table_answer (table_of words a) firmware_room (hub_cost b c) → answer < answer_base → ⊥
  unfolding network_from
  cost_never c tested first z =
      let known = cost_passed words bytes a b c (sym (by_rules tested false first) ∙ z) in
      let t : Ends n a b = known.1.ends in
      never_refused words bytes known.0 a t.first (hub_cost b c)
      (accepts_cost net (fit_tables_of words bytes known.0) a b t known.1.cost known.1.opened)

  -- A link up that is refused early.
  pub up_refused : (ca cb : ℕ) {legal : Bool} → legal ≡ (legal_cost ca && legal_cost cb) → {number : ℕ}
      → number ≡ first_refusal words bytes a b legal true → number ≢ accepted
      → Answered words bytes (up a b ca cb) number words bytes
  unfolding network_refusal
  up_refused ca cb tested first d =
      refused_early words bytes (up a b ca cb) (first_refusal words bytes a b (legal_cost ca && legal_cost cb) true)
      (up_parts words bytes a b _ ca cb) (by_rules tested true first) d

  -- Else it is an event at each end.
  pub up_pair : (ca cb : ℕ) {legal : Bool} → legal ≡ (legal_cost ca && legal_cost cb) → {number : ℕ}
      → number ≡ first_refusal words bytes a b legal true → number ≡ accepted
      → {one two : Told} → one ≡ told_by (table_of words a) (hub_up b ca) → two ≡ told_by (table_of words b) (hub_up a cb)
      → Pair words bytes (up a b ca cb) net a b one two
  unfolding network_refusal network_from outcome
  up_pair ca cb tested first z p q =
      let none : first_refusal words bytes a b (legal_cost ca && legal_cost cb) true ≡ accepted =
      sym (by_rules tested true first) ∙ z in
      let known : (fit_tables words bytes ≡ true) × AcceptedUp net a b _ ca cb = up_passed words bytes a b ca cb none in
      let f : FitNetwork net = fit_tables_of words bytes known.0 in
      let t : Ends n a b = known.1.ends in
      let shape : Shape n net = shape_of (fit_network_shaped words bytes known.0) in
      let back : is_up net b a ≡ false = f.alike b a t.second t.first ∙ known.1.closed in
      record {
        early = first_refusal words bytes a b (legal_cost ca && legal_cost cb) true;
        parts = up_parts words bytes a b _ ca cb;
        none = none;
        one_does = reaction (unit_at net a) (link_up b ca);
        two_does = reaction (unit_at net b) (link_up a cb);
        first =
            trial words bytes known.0 a t.first (hub_up b ca)
            (accepts_up net f a b t known.1.cost_a known.1.closed) p;
        second =
            trial words bytes known.0 b t.second (hub_up a cb)
            (accepts_up net f b a (turned t) known.1.cost_b back) q;
        apart = t.differ;
        shape = shape;
        room_a = refl;
        room_b = refl;
        leads = two_happen shape t (link_up b ca) (link_up a cb);
      }

  -- Neither end refuses anything.
  module _ (ca cb : ℕ) {legal : Bool} (tested : legal ≡ (legal_cost ca && legal_cost cb)) {number : ℕ}
      (first : number ≡ first_refusal words bytes a b legal true) (z : number ≡ accepted) where
    up_known : (fit_tables words bytes ≡ true) × AcceptedUp net a b (fresh 0) ca cb
    up_known = up_passed words bytes a b ca cb (sym (by_rules tested true first) ∙ z)

    pub up_never : {answer : ℕ} → answer ≡ table_answer (table_of words a) firmware_room (hub_up b ca) → answer < answer_base → ⊥
    unfolding network_from
    up_never =
        let t : Ends n a b = up_known.1.ends in
        never_refused words bytes up_known.0 a t.first (hub_up b ca)
        (accepts_up net (fit_tables_of words bytes up_known.0) a b t up_known.1.cost_a up_known.1.closed)

    pub up_never_back : {answer : ℕ} → answer ≡ table_answer (table_of words b) firmware_room (hub_up a cb) → answer < answer_base → ⊥
    unfolding network_from
    up_never_back =
        let t : Ends n a b = up_known.1.ends in
        let f : FitNetwork net = fit_tables_of words bytes up_known.0 in
        never_refused words bytes up_known.0 b t.second (hub_up a cb)
        (accepts_up net f b a (turned t) up_known.1.cost_b (f.alike b a t.second t.first ∙ up_known.1.closed))

  -- A link down that is refused early.
  pub down_refused : {number : ℕ} → number ≡ first_refusal words bytes a b true false → number ≢ accepted
      → Answered words bytes (down a b) number words bytes
  unfolding network_refusal
  down_refused first d =
      refused_early words bytes (down a b) (first_refusal words bytes a b true false) (down_parts words bytes a b _) first d

  -- Else it is an event at each end, in the network whose queues of the link are emptied.
  pub down_pair : {number : ℕ} → number ≡ first_refusal words bytes a b true false → number ≡ accepted
      → {one two : Told} → one ≡ told_by (table_of words a) (hub_down b) → two ≡ told_by (table_of words b) (hub_down a)
      → Pair words bytes (down a b) (emptied net a b) a b one two
  unfolding network_refusal network_from outcome with_queue
  down_pair first z p q =
      let none : first_refusal words bytes a b true false ≡ accepted = sym first ∙ z in
      let known : (fit_tables words bytes ≡ true) × AcceptedDown net a b _ = link_passed words bytes a b none in
      let f : FitNetwork net = fit_tables_of words bytes known.0 in
      let s : ShapedNetwork net = fit_network_shaped words bytes known.0 in
      let t : Ends n a b = known.1.ends in
      let shape : Shape n net = shape_of s in
      let back : is_up net b a ≡ true = f.alike b a t.second t.first ∙ known.1.opened in
      record {
        early = first_refusal words bytes a b true false;
        parts = down_parts words bytes a b _;
        none = none;
        one_does = reaction (unit_at net a) (link_down b);
        two_does = reaction (unit_at net b) (link_down a);
        first = trial words bytes known.0 a t.first (hub_down b) (accepts_down net f a b t known.1.opened) p;
        second = trial words bytes known.0 b t.second (hub_down a) (accepts_down net f b a (turned t) back) q;
        apart = t.differ;
        shape = emptied_shape shape t;
        room_a =
            down_room s t (emptied net a b) refl (emptied_there n net shape a b t.first t.second t.differ)
            (λ y d. emptied_elsewhere shape t a y (λ _ e. d e) (λ e _. t.differ e));
        room_b =
            down_room s (turned t) (emptied net a b) refl (emptied_back n net shape a b t.first t.second)
            (λ y d. emptied_elsewhere shape t b y (λ e _. (turned t).differ e) (λ _ e. d e));
        leads = two_happen (emptied_shape shape t) t (link_down b) (link_down a);
      }

  -- Neither end refuses anything.
  module _ {number : ℕ} (first : number ≡ first_refusal words bytes a b true false) (z : number ≡ accepted) where
    down_known : (fit_tables words bytes ≡ true) × AcceptedDown net a b (fresh 0)
    down_known = link_passed words bytes a b (sym first ∙ z)

    pub down_never : {answer : ℕ} → answer ≡ table_answer (table_of words a) firmware_room (hub_down b) → answer < answer_base → ⊥
    unfolding network_from
    down_never =
        let t : Ends n a b = down_known.1.ends in
        never_refused words bytes down_known.0 a t.first (hub_down b)
        (accepts_down net (fit_tables_of words bytes down_known.0) a b t down_known.1.opened)

    pub down_never_back : {answer : ℕ} → answer ≡ table_answer (table_of words b) firmware_room (hub_down a) → answer < answer_base → ⊥
    unfolding network_from
    down_never_back =
        let t : Ends n a b = down_known.1.ends in
        let f : FitNetwork net = fit_tables_of words bytes down_known.0 in
        never_refused words bytes down_known.0 b t.second (hub_down a)
        (accepts_down net f b a (turned t) (f.alike b a t.second t.first ∙ down_known.1.opened))

  -- The tables once they are.
  pub link_emptied : {number : ℕ} → number ≡ first_refusal words bytes a b true false → number ≡ accepted
      → Tabled n words (emptied_if true bytes a b) (emptied net a b)
  unfolding network_from
  link_emptied first z =
      let known : (fit_tables words bytes ≡ true) × AcceptedDown net a b _ = link_passed words bytes a b (sym first ∙ z) in
      let t : Ends n a b = known.1.ends in
      cleared (cleared (fit_tabled words bytes known.0) a b t.first t.second refl) b a t.second t.first refl
