-- Small lists of words, and what the definitions make of them, each proved by computing.
use Rattle.std.specs.Prelude.{◌≡◌, refl, [], ◌∷◌, None, Some, codes}
use Rattle.option_words.specs.Grammar.{asked_of}
use Rattle.option_words.specs.declared.options.Model.TheVariants.{Empty, OfFile, OfDemo}

no_words : asked_of [] ≡ Some (record { model = Empty; replay = None; workers = 4 })
no_words = refl

value_in_the_next_word : asked_of (codes "--load" ∷ codes "cup.asc" ∷ []) ≡ Some (record { model = OfFile (codes "cup.asc"); replay = None; workers = 4 })
value_in_the_next_word = refl

value_behind_equals : asked_of (codes "--load=cup.asc" ∷ []) ≡ Some (record { model = OfFile (codes "cup.asc"); replay = None; workers = 4 })
value_behind_equals = refl

no_value : asked_of (codes "--load" ∷ []) ≡ None
no_value = refl

empty_value : asked_of (codes "--load=" ∷ []) ≡ None
empty_value = refl

empty_word : asked_of (codes "--load" ∷ [] ∷ []) ≡ None
empty_word = refl

value_with_a_dash : asked_of (codes "--load" ∷ codes "-a" ∷ []) ≡ None
value_with_a_dash = refl

given_twice : asked_of (codes "--load" ∷ codes "a" ∷ codes "--load=a" ∷ []) ≡ None
given_twice = refl

shortened : asked_of (codes "--lo" ∷ codes "a" ∷ []) ≡ None
shortened = refl

two_dashes : asked_of (codes "--" ∷ []) ≡ None
two_dashes = refl

two_dashes_as_a_value : asked_of (codes "--load" ∷ codes "--" ∷ []) ≡ None
two_dashes_as_a_value = refl

no_option : asked_of (codes "cup.asc" ∷ []) ≡ None
no_option = refl

no_name : asked_of (codes "--load=a/b" ∷ []) ≡ None
no_name = refl

equals_in_the_value : asked_of (codes "--load=a=b" ∷ []) ≡ None
equals_in_the_value = refl

a_number : asked_of (codes "--demo" ∷ codes "7" ∷ []) ≡ Some (record { model = OfDemo 7; replay = None; workers = 4 })
a_number = refl

number_behind_equals : asked_of (codes "--demo=0" ∷ []) ≡ Some (record { model = OfDemo 0; replay = None; workers = 4 })
number_behind_equals = refl

leading_zeros : asked_of (codes "--demo=007" ∷ []) ≡ Some (record { model = OfDemo 7; replay = None; workers = 4 })
leading_zeros = refl

nine_digits : asked_of (codes "--demo=999999999" ∷ []) ≡ Some (record { model = OfDemo 999999999; replay = None; workers = 4 })
nine_digits = refl

ten_digits : asked_of (codes "--demo=0000000000" ∷ []) ≡ None
ten_digits = refl

no_digits : asked_of (codes "--demo=" ∷ []) ≡ None
no_digits = refl

a_sign : asked_of (codes "--demo=+7" ∷ []) ≡ None
a_sign = refl

a_fraction : asked_of (codes "--demo=7.0" ∷ []) ≡ None
a_fraction = refl

file_and_demo : asked_of (codes "--load=a" ∷ codes "--demo=7" ∷ []) ≡ None
file_and_demo = refl

demo_and_file : asked_of (codes "--demo" ∷ codes "7" ∷ codes "--load" ∷ codes "a" ∷ []) ≡ None
demo_and_file = refl

demo_twice : asked_of (codes "--demo=7" ∷ codes "--demo=7" ∷ []) ≡ None
demo_twice = refl

replay_alone : asked_of (codes "--replay" ∷ codes "run.txt" ∷ []) ≡ Some (record { model = Empty; replay = Some (codes "run.txt"); workers = 4 })
replay_alone = refl

replay_behind_equals : asked_of (codes "--replay=run.txt" ∷ []) ≡ Some (record { model = Empty; replay = Some (codes "run.txt"); workers = 4 })
replay_behind_equals = refl

file_and_replay : asked_of (codes "--load" ∷ codes "cup.asc" ∷ codes "--replay" ∷ codes "run.txt" ∷ []) ≡ Some (record { model = OfFile (codes "cup.asc"); replay = Some (codes "run.txt"); workers = 4 })
file_and_replay = refl

replay_and_file : asked_of (codes "--replay=a" ∷ codes "--load=a" ∷ []) ≡ Some (record { model = OfFile (codes "a"); replay = Some (codes "a"); workers = 4 })
replay_and_file = refl

demo_and_replay : asked_of (codes "--demo=7" ∷ codes "--replay" ∷ codes "run.txt" ∷ []) ≡ Some (record { model = OfDemo 7; replay = Some (codes "run.txt"); workers = 4 })
demo_and_replay = refl

file_and_demo_and_replay : asked_of (codes "--load=a" ∷ codes "--replay=b" ∷ codes "--demo=7" ∷ []) ≡ None
file_and_demo_and_replay = refl

replay_twice : asked_of (codes "--replay=a" ∷ codes "--replay" ∷ codes "a" ∷ []) ≡ None
replay_twice = refl

replay_without_a_value : asked_of (codes "--replay" ∷ []) ≡ None
replay_without_a_value = refl

replay_of_no_name : asked_of (codes "--replay=a/b" ∷ []) ≡ None
replay_of_no_name = refl

replay_of_an_empty_value : asked_of (codes "--replay=" ∷ []) ≡ None
replay_of_an_empty_value = refl

replay_of_an_empty_word : asked_of (codes "--replay" ∷ [] ∷ []) ≡ None
replay_of_an_empty_word = refl

replay_with_a_dash : asked_of (codes "--replay" ∷ codes "-a" ∷ []) ≡ None
replay_with_a_dash = refl

option_as_the_value_of_replay : asked_of (codes "--replay" ∷ codes "--load=a" ∷ []) ≡ None
option_as_the_value_of_replay = refl

replay_shortened : asked_of (codes "--rep=a" ∷ []) ≡ None
replay_shortened = refl

replay_with_a_bad_number : asked_of (codes "--replay=a" ∷ codes "--demo=" ∷ []) ≡ None
replay_with_a_bad_number = refl

workers_alone : asked_of (codes "--workers" ∷ codes "1" ∷ []) ≡ Some (record { model = Empty; replay = None; workers = 1 })
workers_alone = refl

workers_behind_equals : asked_of (codes "--workers=16" ∷ []) ≡ Some (record { model = Empty; replay = None; workers = 16 })
workers_behind_equals = refl

workers_with_leading_zeros : asked_of (codes "--workers" ∷ codes "007" ∷ []) ≡ Some (record { model = Empty; replay = None; workers = 7 })
workers_with_leading_zeros = refl

workers_of_nine_digits : asked_of (codes "--workers=000000016" ∷ []) ≡ Some (record { model = Empty; replay = None; workers = 16 })
workers_of_nine_digits = refl

workers_of_ten_digits : asked_of (codes "--workers=0000000001" ∷ []) ≡ None
workers_of_ten_digits = refl

no_workers : asked_of (codes "--workers=0" ∷ []) ≡ None
no_workers = refl

too_many_workers : asked_of (codes "--workers" ∷ codes "17" ∷ []) ≡ None
too_many_workers = refl

workers_without_a_value : asked_of (codes "--workers" ∷ []) ≡ None
workers_without_a_value = refl

workers_of_an_empty_value : asked_of (codes "--workers=" ∷ []) ≡ None
workers_of_an_empty_value = refl

workers_with_a_sign : asked_of (codes "--workers=+4" ∷ []) ≡ None
workers_with_a_sign = refl

workers_with_a_dash : asked_of (codes "--workers" ∷ codes "-4" ∷ []) ≡ None
workers_with_a_dash = refl

workers_twice : asked_of (codes "--workers=4" ∷ codes "--workers" ∷ codes "4" ∷ []) ≡ None
workers_twice = refl

workers_shortened : asked_of (codes "--work=4" ∷ []) ≡ None
workers_shortened = refl

workers_and_file : asked_of (codes "--workers=2" ∷ codes "--load" ∷ codes "cup.asc" ∷ []) ≡ Some (record { model = OfFile (codes "cup.asc"); replay = None; workers = 2 })
workers_and_file = refl

demo_and_workers : asked_of (codes "--demo=7" ∷ codes "--workers=2" ∷ []) ≡ Some (record { model = OfDemo 7; replay = None; workers = 2 })
demo_and_workers = refl

workers_between_file_and_replay : asked_of (codes "--load=a" ∷ codes "--workers=2" ∷ codes "--replay=b" ∷ []) ≡ Some (record { model = OfFile (codes "a"); replay = Some (codes "b"); workers = 2 })
workers_between_file_and_replay = refl

good_replay_with_bad_workers : asked_of (codes "--replay=b" ∷ codes "--workers=17" ∷ []) ≡ None
good_replay_with_bad_workers = refl
