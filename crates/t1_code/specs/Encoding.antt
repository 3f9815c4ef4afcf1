-- StandardEncoding (PostScript Language Reference, Appendix E).
use Rattle.std.specs.Prelude.{ℕ, List, [], ◌∷◌, codes, nat_eq, Bool, Option}
use Rattle.std.specs.List.{list_any}
use Rattle.std.specs.Map.{lookup}
use Rattle.std.specs.Str.{bytes_eq}

-- PostScript Language Reference, Appendix E (StandardEncoding): each code that has a name, and the name
unfoldable pub standard_names : List (ℕ × List ℕ)
standard_names =
    (32, codes "space") ∷
    (33, codes "exclam") ∷
    (34, codes "quotedbl") ∷
    (35, codes "numbersign") ∷
    (36, codes "dollar") ∷
    (37, codes "percent") ∷
    (38, codes "ampersand") ∷
    (39, codes "quoteright") ∷
    (40, codes "parenleft") ∷
    (41, codes "parenright") ∷
    (42, codes "asterisk") ∷
    (43, codes "plus") ∷
    (44, codes "comma") ∷
    (45, codes "hyphen") ∷
    (46, codes "period") ∷
    (47, codes "slash") ∷
    (48, codes "zero") ∷
    (49, codes "one") ∷
    (50, codes "two") ∷
    (51, codes "three") ∷
    (52, codes "four") ∷
    (53, codes "five") ∷
    (54, codes "six") ∷
    (55, codes "seven") ∷
    (56, codes "eight") ∷
    (57, codes "nine") ∷
    (58, codes "colon") ∷
    (59, codes "semicolon") ∷
    (60, codes "less") ∷
    (61, codes "equal") ∷
    (62, codes "greater") ∷
    (63, codes "question") ∷
    (64, codes "at") ∷
    (65, codes "A") ∷
    (66, codes "B") ∷
    (67, codes "C") ∷
    (68, codes "D") ∷
    (69, codes "E") ∷
    (70, codes "F") ∷
    (71, codes "G") ∷
    (72, codes "H") ∷
    (73, codes "I") ∷
    (74, codes "J") ∷
    (75, codes "K") ∷
    (76, codes "L") ∷
    (77, codes "M") ∷
    (78, codes "N") ∷
    (79, codes "O") ∷
    (80, codes "P") ∷
    (81, codes "Q") ∷
    (82, codes "R") ∷
    (83, codes "S") ∷
    (84, codes "T") ∷
    (85, codes "U") ∷
    (86, codes "V") ∷
    (87, codes "W") ∷
    (88, codes "X") ∷
    (89, codes "Y") ∷
    (90, codes "Z") ∷
    (91, codes "bracketleft") ∷
    (92, codes "backslash") ∷
    (93, codes "bracketright") ∷
    (94, codes "asciicircum") ∷
    (95, codes "underscore") ∷
    (96, codes "quoteleft") ∷
    (97, codes "a") ∷
    (98, codes "b") ∷
    (99, codes "c") ∷
    (100, codes "d") ∷
    (101, codes "e") ∷
    (102, codes "f") ∷
    (103, codes "g") ∷
    (104, codes "h") ∷
    (105, codes "i") ∷
    (106, codes "j") ∷
    (107, codes "k") ∷
    (108, codes "l") ∷
    (109, codes "m") ∷
    (110, codes "n") ∷
    (111, codes "o") ∷
    (112, codes "p") ∷
    (113, codes "q") ∷
    (114, codes "r") ∷
    (115, codes "s") ∷
    (116, codes "t") ∷
    (117, codes "u") ∷
    (118, codes "v") ∷
    (119, codes "w") ∷
    (120, codes "x") ∷
    (121, codes "y") ∷
    (122, codes "z") ∷
    (123, codes "braceleft") ∷
    (124, codes "bar") ∷
    (125, codes "braceright") ∷
    (126, codes "asciitilde") ∷
    (161, codes "exclamdown") ∷
    (162, codes "cent") ∷
    (163, codes "sterling") ∷
    (164, codes "fraction") ∷
    (165, codes "yen") ∷
    (166, codes "florin") ∷
    (167, codes "section") ∷
    (168, codes "currency") ∷
    (169, codes "quotesingle") ∷
    (170, codes "quotedblleft") ∷
    (171, codes "guillemotleft") ∷
    (172, codes "guilsinglleft") ∷
    (173, codes "guilsinglright") ∷
    (174, codes "fi") ∷
    (175, codes "fl") ∷
    (177, codes "endash") ∷
    (178, codes "dagger") ∷
    (179, codes "daggerdbl") ∷
    (180, codes "periodcentered") ∷
    (182, codes "paragraph") ∷
    (183, codes "bullet") ∷
    (184, codes "quotesinglbase") ∷
    (185, codes "quotedblbase") ∷
    (186, codes "quotedblright") ∷
    (187, codes "guillemotright") ∷
    (188, codes "ellipsis") ∷
    (189, codes "perthousand") ∷
    (191, codes "questiondown") ∷
    (193, codes "grave") ∷
    (194, codes "acute") ∷
    (195, codes "circumflex") ∷
    (196, codes "tilde") ∷
    (197, codes "macron") ∷
    (198, codes "breve") ∷
    (199, codes "dotaccent") ∷
    (200, codes "dieresis") ∷
    (202, codes "ring") ∷
    (203, codes "cedilla") ∷
    (205, codes "hungarumlaut") ∷
    (206, codes "ogonek") ∷
    (207, codes "caron") ∷
    (208, codes "emdash") ∷
    (225, codes "AE") ∷
    (227, codes "ordfeminine") ∷
    (232, codes "Lslash") ∷
    (233, codes "Oslash") ∷
    (234, codes "OE") ∷
    (235, codes "ordmasculine") ∷
    (241, codes "ae") ∷
    (245, codes "dotlessi") ∷
    (248, codes "lslash") ∷
    (249, codes "oslash") ∷
    (250, codes "oe") ∷
    (251, codes "germandbls") ∷
    []

-- PostScript Language Reference, Appendix E (StandardEncoding): the name of a code
unfoldable pub standard_name : ℕ → Option (List ℕ)
standard_name code = lookup (nat_eq code) standard_names

-- PostScript Language Reference, Appendix E (StandardEncoding): some code has the name
unfoldable pub is_standard_name : List ℕ → Bool
is_standard_name name = list_any (λ (row : ℕ × List ℕ). bytes_eq row.1 name) standard_names
