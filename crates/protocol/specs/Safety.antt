-- The safety law, of every run.
-- Assumes nothing.
use Rattle.std.specs.Prelude.{◌≡◌, ℕ, ◌<◌, Bool, true, T, ◌⊎◌, List, ◌++◌, length, is_ok, Err, ◌≢◌}
use Rattle.quorum.specs.Laws.{QuorumLaws}
use Rattle.refusal.specs.declared.Refusal.TheVariants.{CommitConflict}
use Rattle.rotation.specs.Laws.{RotationLaws}
use Rattle.safety.specs.Book.{Book, Made, StandsOn, Kept, Behind}
use Rattle.book.specs.Admission.{Design}
use Rattle.book.specs.Pages.{among}
use Rattle.book.specs.Rules.{model}
use Rattle.protocol.specs.Calls.{reply, after, run}
use Rattle.protocol.specs.State.{State, is_kept, fresh, commits}
use Rattle.protocol.specs.declared.call.Call.{Call}
use Rattle.protocol.specs.declared.call.Call.TheVariants.{Show}

-- the book of a cluster in the words of the protocol
abbrev pub book_of : State → Book
book_of st = model st.design st.blocks

-- a list starts with the whole of another
abbrev pub Starts : List ℕ → List ℕ → Type 0
Starts xs ys = (zs : List ℕ) × (ys ≡ xs ++ zs)

-- Agreement: of the lists of commits of two kept seats, at an earlier and at a later moment, one starts with the whole
-- of the other (the literature: consistency, agreement).
abbrev pub Agreement : State → State → Type 0
Agreement m m' =
    (s t : ℕ) → T (is_kept m s) → T (is_kept m' t) →
    Starts (commits m s) (commits m' t) ⊎ Starts (commits m' t) (commits m s)

-- A kept leader's block lasts: once a quorum stands behind it, every block of a later view stands on it.
abbrev pub KeptLeaderLasts : State → Type 0
KeptLeaderLasts m =
    (x y : ℕ) → Made (book_of m) x → Behind (book_of m) x → Kept (book_of m) ((book_of m).maker x) →
    y < length m.blocks → (book_of m).view x < (book_of m).view y → StandsOn (book_of m) y x

-- the chain of t carries the certificates of a and of b, and the elder, a's, is a kept leader's block
pub record Elder (k : Book) (t a b : ℕ) : Type 0 where
  pub held : t < k.size
  pub first : StandsOn k t a
  pub second : StandsOn k t b
  pub elder : k.view (k.cert a) < k.view (k.cert b)
  pub made : 0 < k.cert a
  pub kept : Kept k (k.maker (k.cert a))

-- Elders are committed: the commit point of t stands on the elder; and a kept seat that accepts a showing of t has the
-- elder in its list of commits from then on.
abbrev pub EldersCommitted : State → Type 0
EldersCommitted m =
    (t a b : ℕ) → Elder (book_of m) t a b →
    StandsOn (book_of m) ((book_of m).commit t) ((book_of m).cert a)
    × ((s : ℕ) → is_ok (reply m (Show s t)) ≡ true → (more : List Call) →
    among ((book_of m).cert a) (commits (run (after m (Show s t)) more) s) ≡ true)

-- What is asked of a design: a rule with its laws, a rotation of as many seats, and open seats that the rule tolerates.
pub record Fit (d : Design) (most : ℕ) (tolerated : ℕ → Bool) : Type 0 where
  pub rule : QuorumLaws most d.seats d.quorum tolerated
  pub rotation : RotationLaws d.seats d.leads
  pub tolerable : T (tolerated d.open_seats)

-- What is safe of all that follows a state: any calls xs, with any arguments and refused ones among them, and any calls
-- ys after them.
abbrev pub Safe : State → Type 0
Safe st = (xs ys : List Call) → let m = run st xs in Agreement m (run m ys) × KeptLeaderLasts m × EldersCommitted m

-- The safety law: for any rule with its laws, any rotation and any tolerated open set, a new cluster is safe.
abbrev pub SafetyLaw : Type 0
SafetyLaw = (d : Design) (most : ℕ) (tolerated : ℕ → Bool) → Fit d most tolerated → Safe (fresh d)

-- At each moment every block of a view above that of b's certificate stands on b's commit point; and so no showing is
-- refused because commit point and tip conflict.
abbrev pub ProposalsStand : State → Type 0
ProposalsStand st =
    (xs : List Call) →
    let m = run st xs in
    ((b x : ℕ) → b < length m.blocks → x < length m.blocks →
    (book_of m).view ((book_of m).cert b) < (book_of m).view x → StandsOn (book_of m) x ((book_of m).commit b))
    × ((s b : ℕ) → reply m (Show s b) ≢ Err CommitConflict)

abbrev pub ProposalsLaw : Type 0
ProposalsLaw = (d : Design) (most : ℕ) (tolerated : ℕ → Bool) → Fit d most tolerated → ProposalsStand (fresh d)
