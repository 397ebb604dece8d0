-- Of which commands redis-cli prints the replies as their text stands, as its function
-- cliSendCommand has them.
use Rattle.std.specs.Prelude.{ℕ, ◌==◌, Bool, true, ◌&&◌, ◌||◌, if◌then◌else◌, List, codes}
use Rattle.std.specs.Str.{str_eq_ignore_ascii_case}

-- DEBUG HTSTATS, DEBUG HTSTATS-KEY and DEBUG CLIENT-EVICTION
abbrev pub is_raw_debug : List ℕ → Bool
is_raw_debug word = str_eq_ignore_ascii_case word (codes "htstats")
    || (str_eq_ignore_ascii_case word (codes "htstats-key")
    || str_eq_ignore_ascii_case word (codes "client-eviction"))

-- MEMORY MALLOC-STATS and MEMORY DOCTOR
abbrev pub is_raw_memory : List ℕ → Bool
is_raw_memory word = str_eq_ignore_ascii_case word (codes "malloc-stats")
    || str_eq_ignore_ascii_case word (codes "doctor")

-- CLUSTER NODES and CLUSTER INFO, with no other word
abbrev pub is_raw_cluster : List ℕ → ℕ → Bool
is_raw_cluster word count = (count == 2) && (str_eq_ignore_ascii_case word (codes "nodes")
    || str_eq_ignore_ascii_case word (codes "info"))

-- CLIENT LIST and CLIENT INFO
abbrev pub is_raw_client : List ℕ → Bool
is_raw_client word = str_eq_ignore_ascii_case word (codes "list")
    || str_eq_ignore_ascii_case word (codes "info")

-- LATENCY GRAPH with one word more, and LATENCY DOCTOR with none
abbrev pub is_raw_latency : List ℕ → ℕ → Bool
is_raw_latency word count =
    ((count == 3) && str_eq_ignore_ascii_case word (codes "graph"))
    || ((count == 2) && str_eq_ignore_ascii_case word (codes "doctor"))

-- the replies of a command with this name, this word after it and this number of words are printed
-- as their text stands: those of INFO, LOLWUT and PROXY INFO too
abbrev pub is_raw : List ℕ → List ℕ → ℕ → Bool
is_raw name word count =
    if str_eq_ignore_ascii_case name (codes "info") || str_eq_ignore_ascii_case name (codes "lolwut")
    then true
    else (if str_eq_ignore_ascii_case name (codes "debug") then is_raw_debug word
    else (if str_eq_ignore_ascii_case name (codes "memory") then is_raw_memory word
    else (if str_eq_ignore_ascii_case name (codes "cluster") then is_raw_cluster word count
    else (if str_eq_ignore_ascii_case name (codes "client") then is_raw_client word
    else (if str_eq_ignore_ascii_case name (codes "latency") then is_raw_latency word count
    else (str_eq_ignore_ascii_case name (codes "proxy")
    && str_eq_ignore_ascii_case word (codes "info")))))))
