-- Worked rows of the definitions: the canonical text of what a text reads as, and first faults.
use Rattle.std.proofs.Common.{◌≡◌, ℕ, List, [], Result, Ok, Err, refl, codes}
use Rattle.std.specs.Fmt.{digits}
use Rattle.std.specs.Prelude.{replicate}
use Rattle.filter_lang.specs.declared.errors.FilterError.{FilterError}
use Rattle.filter_lang.specs.declared.errors.FilterError.TheVariants.{Long, Term, TooMany}
use Rattle.filter_lang.specs.Terms.{TermSeen}
use Rattle.filter_lang.specs.Numbers.{fraction_digits, dotted_of, millionths_of, degrees_of, kilometres_of, millionths_text, degrees_text}
use Rattle.filter_lang.specs.Names.{name_of}
use Rattle.filter_lang.specs.Sets.{letters_of, set_of, mask_of}
use Rattle.filter_lang.specs.Grammar.{terms_of, range_of, area_of, near_of, friend_of, mine_of, class_of, symbols_of, symbol_if, symbol_of, construct_if, construct_of, named_of, other_of, what_of, term_of, excess_of}
use Rattle.filter_lang.specs.Canonical.{canonical, term_text}

again : Result (List TermSeen) FilterError → Result (List ℕ) FilterError
again (Ok terms) = Ok (canonical terms)
again (Err e) = Err e

-- the canonical text of what each text reads as
reads :
    -- range
    (again (terms_of (codes "R/033.250/-96.50/50.7  t/wp")) ≡ Ok (codes "r/33.25/-96.5/50 t/pw"))
    -- prefixes
    × (again (terms_of (codes "p/A*/B")) ≡ Ok (codes "p/A/B"))
    -- any prefix
    × (again (terms_of (codes "p/*")) ≡ Ok (codes "p/*"))
    -- bar
    × (again (terms_of (codes "-b/A|B")) ≡ Ok (codes "-b/A|B"))
    -- minus zero
    × (again (terms_of (codes "r/-0.0/0/1/")) ≡ Ok (codes "r/0/0/1"))
    -- empty
    × (again (terms_of (codes "")) ≡ Ok (codes ""))
    -- blanks
    × (again (terms_of (codes "   ")) ≡ Ok (codes ""))
    -- a wild name, and an excluding term
    × (again (terms_of (codes "b/K1* -p/K1A")) ≡ Ok (codes "b/K1* -p/K1A"))
    -- star name
    × (again (terms_of (codes "p/~*")) ≡ Ok (codes "p/~"))
    -- wild star
    × (again (terms_of (codes "b/~*/|~|")) ≡ Ok (codes "b/~*/|~|"))
    -- over alone
    × (again (terms_of (codes "s///9")) ≡ Ok (codes "s///9"))
    -- symbols
    × (again (terms_of (codes "s/->*|/#/~")) ≡ Ok (codes "s/~-|>/#/~"))
    -- last empty
    × (again (terms_of (codes "s/-//")) ≡ Ok (codes "s/-"))
    -- gates
    × (again (terms_of (codes "q//I")) ≡ Ok (codes "q//I"))
    -- letters
    × (again (terms_of (codes "q/RrA/I/")) ≡ Ok (codes "q/ARr/I"))
    -- near
    × (again (terms_of (codes "t/wuwo/K1ABC-1/050.5")) ≡ Ok (codes "t/ouw/K1ABC-1/50"))
    -- area
    × (again (terms_of (codes "a/90/-180.0000009/-90.000000/1.000001")) ≡ Ok (codes "a/90/-180/-90/1.000001"))
    -- friend
    × (again (terms_of (codes "F/qAC/0")) ≡ Ok (codes "f/qAC/0"))
    -- mine
    × (again (terms_of (codes "m/00007")) ≡ Ok (codes "m/7"))
    -- names
    × (again (terms_of (codes "o/a/B d/WIDE* E/T2* g/X u/AP*")) ≡ Ok (codes "o/a/B d/WIDE* e/T2* g/X u/AP*"))
    -- seventh place
    × (again (terms_of (codes "r/90.0000009/0/1")) ≡ Ok (codes "r/90/0/1"))
    -- sixth place
    × (again (terms_of (codes "r/1.0000019/0.1234560/1")) ≡ Ok (codes "r/1.000001/0.123456/1"))
unfolding again terms_of canonical term_text fraction_digits letters_of digits dotted_of millionths_of degrees_of kilometres_of millionths_text degrees_text name_of set_of mask_of range_of area_of near_of friend_of mine_of class_of symbols_of symbol_if symbol_of construct_if construct_of named_of other_of what_of term_of excess_of
reads = (refl, refl, refl, refl, refl, refl, refl, refl, refl, refl, refl, refl, refl, refl, refl, refl, refl, refl, refl, refl, refl, refl)

-- the first fault of each text, and the longest that has none
faults :
    -- no class letter
    (again (terms_of (codes "t/x")) ≡ Err (Term 1))
    -- too many kilometres
    × (again (terms_of (codes "r/1/2/100000")) ≡ Err (Term 1))
    -- star inside
    × (again (terms_of (codes "t/p b/A*B")) ≡ Err (Term 2))
    -- a tenth of its kind
    × (again (terms_of (codes "f/A/1 f/A/1 f/A/1 f/A/1 f/A/1 f/A/1 f/A/1 f/A/1 f/A/1 f/A/1 ")) ≡ Err (TooMany 102))
    -- a 65th term
    × (again (terms_of (codes "t/p t/p t/p t/p t/p t/p t/p t/p t/p t/p t/p t/p t/p t/p t/p t/p t/p t/p t/p t/p t/p t/p t/p t/p t/p t/p t/p t/p t/p t/p t/p t/p t/p t/p t/p t/p t/p t/p t/p t/p t/p t/p t/p t/p t/p t/p t/p t/p t/p t/p t/p t/p t/p t/p t/p t/p t/p t/p t/p t/p t/p t/p t/p t/p t/p ")) ≡ Err (TooMany 42))
    -- a late term that is none
    × (again (terms_of (codes "r/0/0/1 r/0/0/1 r/0/0/1 r/0/0/1 r/0/0/1 r/0/0/1 r/0/0/1 r/0/0/1 r/0/0/1 r/x/0/1")) ≡ Err (Term 10))
    -- excluded tenth
    × (again (terms_of (codes "-a/1/1/1/1 -a/1/1/1/1 -a/1/1/1/1 -a/1/1/1/1 -a/1/1/1/1 -a/1/1/1/1 -a/1/1/1/1 -a/1/1/1/1 -a/1/1/1/1 a/1/1/1/1")) ≡ Err (TooMany 97))
    -- tenth before many
    × (again (terms_of (codes "r/0/0/1 r/0/0/1 r/0/0/1 r/0/0/1 r/0/0/1 r/0/0/1 r/0/0/1 r/0/0/1 r/0/0/1 t/p t/p t/p t/p t/p t/p t/p t/p t/p t/p t/p t/p t/p t/p t/p t/p t/p t/p t/p t/p t/p t/p t/p t/p t/p t/p t/p t/p t/p t/p t/p t/p t/p t/p t/p t/p t/p t/p t/p t/p t/p t/p t/p t/p t/p t/p t/p t/p t/p t/p t/p t/p t/p t/p t/p r/0/0/1")) ≡ Err (TooMany 114))
    -- no name
    × (again (terms_of (codes "p/")) ≡ Err (Term 1))
    -- two slashes
    × (again (terms_of (codes "r/1/2/3//")) ≡ Err (Term 1))
    -- no digit
    × (again (terms_of (codes "r/1./2/3")) ≡ Err (Term 1))
    -- past the pole
    × (again (terms_of (codes "r/90.000001/0/1")) ≡ Err (Term 1))
    -- no construct letters
    × (again (terms_of (codes "q/")) ≡ Err (Term 1))
    -- a small I
    × (again (terms_of (codes "q//i")) ≡ Err (Term 1))
    -- no symbols
    × (again (terms_of (codes "s//")) ≡ Err (Term 1))
    -- dash
    × (again (terms_of (codes "-")) ≡ Err (Term 1))
    -- slash
    × (again (terms_of (codes "/")) ≡ Err (Term 1))
    -- long name
    × (again (terms_of (codes "b/ABCDEFGHIJ")) ≡ Err (Term 1))
    -- four digits
    × (again (terms_of (codes "r/0000/0/1")) ≡ Err (Term 1))
    -- a capital class letter
    × (again (terms_of (codes "t/P")) ≡ Err (Term 1))
    -- no kind
    × (again (terms_of (codes "z/1")) ≡ Err (Term 1))
    -- wrong call
    × (again (terms_of (codes "f/K1-ABC/1")) ≡ Err (Term 1))
    -- too long
    × (again (terms_of (replicate 481 32)) ≡ Err Long)
    -- not too long
    × (again (terms_of (replicate 480 32)) ≡ Ok [])
unfolding again terms_of canonical term_text fraction_digits letters_of digits dotted_of millionths_of degrees_of kilometres_of millionths_text degrees_text name_of set_of mask_of range_of area_of near_of friend_of mine_of class_of symbols_of symbol_if symbol_of construct_if construct_of named_of other_of what_of term_of excess_of
faults = (refl, refl, refl, refl, refl, refl, refl, refl, refl, refl, refl, refl, refl, refl, refl, refl, refl, refl, refl, refl, refl, refl, refl, refl)
