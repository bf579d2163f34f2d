-- A login that asks for its lines by datagrams: `user CALL pass CODE vers NAME VERSION UDP PORT`.
use Rattle.std.specs.Prelude.{ℕ, zero, suc, ◌&&◌, Bool, false, if◌then◌else◌, nat_le, List, codes, Option, Some, None, Result, Ok, Err}
use Rattle.login_pass.specs.Login.{Word, first_text, is_code_number, is_keyword, is_verified, later, login_of, number_from, words_of}
use Rattle.login_pass.specs.declared.login_line.Login.{Login}
use Rattle.login_pass.specs.declared.login_line.LoginFault.{LoginFault}

-- the words after so many
abbrev pub later_by : ℕ → List Word → List Word
later_by zero words = words
later_by (suc n) words = later_by n (later words)

-- the text of the word after so many, which is empty where there is none
abbrev pub word_at : ℕ → List Word → List ℕ
word_at n words = first_text (later_by n words)

-- a line is a login, and verified
abbrev pub is_good : Result Login LoginFault → Bool
is_good (Ok login) = is_verified login
is_good (Err fault) = false

-- one to five digits, from 1 to 65535
abbrev pub port_of : List ℕ → Option ℕ
port_of text = let port = number_from 0 text in if is_code_number text && nat_le 1 port && nat_le port 65535 then Some port else None

-- of a verified login whose fifth word is `vers` and whose eighth is `UDP` the ninth word is the port
unfoldable pub downlink_of : List ℕ → Option ℕ
downlink_of line =
    let words = words_of line in
    if is_good (login_of line) && is_keyword (codes "vers") (word_at 4 words) && is_keyword (codes "UDP") (word_at 7 words) then port_of (word_at 8 words) else None
