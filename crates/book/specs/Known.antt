-- What holds of every book, whatever the rule: each number in it names something that is there, and chains go down.
-- Assumes nothing.
use Rattle.std.specs.Prelude.{◌≡◌, ℕ, ◌<◌, ◌≤◌, List, length, slice_index}
use Rattle.rotation.specs.Turns.{last_view}
use Rattle.book.specs.declared.block.Block.{Block}
use Rattle.letters.specs.declared.letter.Letter.{Letter}
use Rattle.book.specs.Pages.{at, letter_at}

-- the first block has view 0, and no view is above the last
abbrev pub FirstView : List Block → Type 0
FirstView bs = (at bs 0).view ≡ 0

abbrev pub ViewsWithin : List Block → Type 0
ViewsWithin bs = (b : ℕ) → b < length bs → (at bs b).view ≤ last_view

-- a parent has a smaller number than its block
abbrev pub ParentsBefore : List Block → Type 0
ParentsBefore bs = (b : ℕ) → 0 < b → b < length bs → (at bs b).parent < b

-- and an earlier view
abbrev pub ParentsEarlier : List Block → Type 0
ParentsEarlier bs = (b : ℕ) → 0 < b → b < length bs → (at bs (at bs b).parent).view < (at bs b).view

abbrev pub HeightsWithin : List Block → Type 0
HeightsWithin bs = (b : ℕ) → b < length bs → (at bs b).height ≤ b

-- certificates, commit points and reports name blocks that were there before
abbrev pub CertificatesKnown : List Block → Type 0
CertificatesKnown bs = (b : ℕ) → b < length bs → (at bs b).certificate ≤ b

abbrev pub CommitsKnown : List Block → Type 0
CommitsKnown bs = (b : ℕ) → b < length bs → (at bs b).commit ≤ b

abbrev pub ReportsKnown : List Block → Type 0
ReportsKnown bs = (b s : ℕ) → b < length bs → slice_index (at bs b).reports s ≤ b

-- a letter names a block that is there, of an earlier view than its own
abbrev pub LettersKnown : List Block → List Letter → Type 0
LettersKnown bs ls = (i : ℕ) → i < length ls → (letter_at ls i).block < length bs

abbrev pub LettersLater : List Block → List Letter → Type 0
LettersLater bs ls = (i : ℕ) → i < length ls → (at bs (letter_at ls i).block).view < (letter_at ls i).view

-- all of these
pub record Known (bs : List Block) (ls : List Letter) : Type 0 where
  pub some : 0 < length bs
  pub first_view : FirstView bs
  pub views_within : ViewsWithin bs
  pub parents_before : ParentsBefore bs
  pub parents_earlier : ParentsEarlier bs
  pub heights_within : HeightsWithin bs
  pub certificates_known : CertificatesKnown bs
  pub commits_known : CommitsKnown bs
  pub reports_known : ReportsKnown bs
  pub letters_known : LettersKnown bs ls
  pub letters_later : LettersLater bs ls

-- what a block must show to be added
pub record Enters (bs : List Block) (b : Block) : Type 0 where
  pub view_within : b.view ≤ last_view
  pub parent_held : b.parent < length bs
  pub parent_earlier : (at bs b.parent).view < b.view
  pub height_within : b.height ≤ length bs
  pub certificate_held : b.certificate < length bs
  pub commit_held : b.commit < length bs
  pub reports_held : (s : ℕ) → slice_index b.reports s < length bs
