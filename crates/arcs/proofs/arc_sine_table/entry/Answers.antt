-- `arcs::arc_sine_table::entry` meets its contract: antt looks each arm up in the lists, and what is none of the first 90 is 90.
use Rattle.arcs.proofs.SinesTabled.{listed, held, held_last}
use Rattle.arcs.proofs.arc_sine_table.entry.Goals as goal

pub returns-in-0 : goal.returns-in-0
unfolding listed
returns-in-0 c = held c.in-0.is tt

pub returns-in-1 : goal.returns-in-1
unfolding listed
returns-in-1 c = held c.in-1.is tt

pub returns-in-2 : goal.returns-in-2
unfolding listed
returns-in-2 c = held c.in-2.is tt

pub returns-in-3 : goal.returns-in-3
unfolding listed
returns-in-3 c = held c.in-3.is tt

pub returns-in-4 : goal.returns-in-4
unfolding listed
returns-in-4 c = held c.in-4.is tt

pub returns-in-5 : goal.returns-in-5
unfolding listed
returns-in-5 c = held c.in-5.is tt

pub returns-in-6 : goal.returns-in-6
unfolding listed
returns-in-6 c = held c.in-6.is tt

pub returns-in-7 : goal.returns-in-7
unfolding listed
returns-in-7 c = held c.in-7.is tt

pub returns-in-8 : goal.returns-in-8
unfolding listed
returns-in-8 c = held c.in-8.is tt

pub returns-in-9 : goal.returns-in-9
unfolding listed
returns-in-9 c = held c.in-9.is tt

pub returns-in-10 : goal.returns-in-10
unfolding listed
returns-in-10 c = held c.in-10.is tt

pub returns-in-11 : goal.returns-in-11
unfolding listed
returns-in-11 c = held c.in-11.is tt

pub returns-in-12 : goal.returns-in-12
unfolding listed
returns-in-12 c = held c.in-12.is tt

pub returns-in-13 : goal.returns-in-13
unfolding listed
returns-in-13 c = held c.in-13.is tt

pub returns-in-14 : goal.returns-in-14
unfolding listed
returns-in-14 c = held c.in-14.is tt

pub returns-in-15 : goal.returns-in-15
unfolding listed
returns-in-15 c = held c.in-15.is tt

pub returns-in-16 : goal.returns-in-16
unfolding listed
returns-in-16 c = held c.in-16.is tt

pub returns-in-17 : goal.returns-in-17
unfolding listed
returns-in-17 c = held c.in-17.is tt

pub returns-in-18 : goal.returns-in-18
unfolding listed
returns-in-18 c = held c.in-18.is tt

pub returns-in-19 : goal.returns-in-19
unfolding listed
returns-in-19 c = held c.in-19.is tt

pub returns-in-20 : goal.returns-in-20
unfolding listed
returns-in-20 c = held c.in-20.is tt

pub returns-in-21 : goal.returns-in-21
unfolding listed
returns-in-21 c = held c.in-21.is tt

pub returns-in-22 : goal.returns-in-22
unfolding listed
returns-in-22 c = held c.in-22.is tt

pub returns-in-23 : goal.returns-in-23
unfolding listed
returns-in-23 c = held c.in-23.is tt

pub returns-in-24 : goal.returns-in-24
unfolding listed
returns-in-24 c = held c.in-24.is tt

pub returns-in-25 : goal.returns-in-25
unfolding listed
returns-in-25 c = held c.in-25.is tt

pub returns-in-26 : goal.returns-in-26
unfolding listed
returns-in-26 c = held c.in-26.is tt

pub returns-in-27 : goal.returns-in-27
unfolding listed
returns-in-27 c = held c.in-27.is tt

pub returns-in-28 : goal.returns-in-28
unfolding listed
returns-in-28 c = held c.in-28.is tt

pub returns-in-29 : goal.returns-in-29
unfolding listed
returns-in-29 c = held c.in-29.is tt

pub returns-in-30 : goal.returns-in-30
unfolding listed
returns-in-30 c = held c.in-30.is tt

pub returns-in-31 : goal.returns-in-31
unfolding listed
returns-in-31 c = held c.in-31.is tt

pub returns-in-32 : goal.returns-in-32
unfolding listed
returns-in-32 c = held c.in-32.is tt

pub returns-in-33 : goal.returns-in-33
unfolding listed
returns-in-33 c = held c.in-33.is tt

pub returns-in-34 : goal.returns-in-34
unfolding listed
returns-in-34 c = held c.in-34.is tt

pub returns-in-35 : goal.returns-in-35
unfolding listed
returns-in-35 c = held c.in-35.is tt

pub returns-in-36 : goal.returns-in-36
unfolding listed
returns-in-36 c = held c.in-36.is tt

pub returns-in-37 : goal.returns-in-37
unfolding listed
returns-in-37 c = held c.in-37.is tt

pub returns-in-38 : goal.returns-in-38
unfolding listed
returns-in-38 c = held c.in-38.is tt

pub returns-in-39 : goal.returns-in-39
unfolding listed
returns-in-39 c = held c.in-39.is tt

pub returns-in-40 : goal.returns-in-40
unfolding listed
returns-in-40 c = held c.in-40.is tt

pub returns-in-41 : goal.returns-in-41
unfolding listed
returns-in-41 c = held c.in-41.is tt

pub returns-in-42 : goal.returns-in-42
unfolding listed
returns-in-42 c = held c.in-42.is tt

pub returns-in-43 : goal.returns-in-43
unfolding listed
returns-in-43 c = held c.in-43.is tt

pub returns-in-44 : goal.returns-in-44
unfolding listed
returns-in-44 c = held c.in-44.is tt

pub returns-in-45 : goal.returns-in-45
unfolding listed
returns-in-45 c = held c.in-45.is tt

pub returns-in-46 : goal.returns-in-46
unfolding listed
returns-in-46 c = held c.in-46.is tt

pub returns-in-47 : goal.returns-in-47
unfolding listed
returns-in-47 c = held c.in-47.is tt

pub returns-in-48 : goal.returns-in-48
unfolding listed
returns-in-48 c = held c.in-48.is tt

pub returns-in-49 : goal.returns-in-49
unfolding listed
returns-in-49 c = held c.in-49.is tt

pub returns-in-50 : goal.returns-in-50
unfolding listed
returns-in-50 c = held c.in-50.is tt

pub returns-in-51 : goal.returns-in-51
unfolding listed
returns-in-51 c = held c.in-51.is tt

pub returns-in-52 : goal.returns-in-52
unfolding listed
returns-in-52 c = held c.in-52.is tt

pub returns-in-53 : goal.returns-in-53
unfolding listed
returns-in-53 c = held c.in-53.is tt

pub returns-in-54 : goal.returns-in-54
unfolding listed
returns-in-54 c = held c.in-54.is tt

pub returns-in-55 : goal.returns-in-55
unfolding listed
returns-in-55 c = held c.in-55.is tt

pub returns-in-56 : goal.returns-in-56
unfolding listed
returns-in-56 c = held c.in-56.is tt

pub returns-in-57 : goal.returns-in-57
unfolding listed
returns-in-57 c = held c.in-57.is tt

pub returns-in-58 : goal.returns-in-58
unfolding listed
returns-in-58 c = held c.in-58.is tt

pub returns-in-59 : goal.returns-in-59
unfolding listed
returns-in-59 c = held c.in-59.is tt

pub returns-in-60 : goal.returns-in-60
unfolding listed
returns-in-60 c = held c.in-60.is tt

pub returns-in-61 : goal.returns-in-61
unfolding listed
returns-in-61 c = held c.in-61.is tt

pub returns-in-62 : goal.returns-in-62
unfolding listed
returns-in-62 c = held c.in-62.is tt

pub returns-in-63 : goal.returns-in-63
unfolding listed
returns-in-63 c = held c.in-63.is tt

pub returns-in-64 : goal.returns-in-64
unfolding listed
returns-in-64 c = held c.in-64.is tt

pub returns-in-65 : goal.returns-in-65
unfolding listed
returns-in-65 c = held c.in-65.is tt

pub returns-in-66 : goal.returns-in-66
unfolding listed
returns-in-66 c = held c.in-66.is tt

pub returns-in-67 : goal.returns-in-67
unfolding listed
returns-in-67 c = held c.in-67.is tt

pub returns-in-68 : goal.returns-in-68
unfolding listed
returns-in-68 c = held c.in-68.is tt

pub returns-in-69 : goal.returns-in-69
unfolding listed
returns-in-69 c = held c.in-69.is tt

pub returns-in-70 : goal.returns-in-70
unfolding listed
returns-in-70 c = held c.in-70.is tt

pub returns-in-71 : goal.returns-in-71
unfolding listed
returns-in-71 c = held c.in-71.is tt

pub returns-in-72 : goal.returns-in-72
unfolding listed
returns-in-72 c = held c.in-72.is tt

pub returns-in-73 : goal.returns-in-73
unfolding listed
returns-in-73 c = held c.in-73.is tt

pub returns-in-74 : goal.returns-in-74
unfolding listed
returns-in-74 c = held c.in-74.is tt

pub returns-in-75 : goal.returns-in-75
unfolding listed
returns-in-75 c = held c.in-75.is tt

pub returns-in-76 : goal.returns-in-76
unfolding listed
returns-in-76 c = held c.in-76.is tt

pub returns-in-77 : goal.returns-in-77
unfolding listed
returns-in-77 c = held c.in-77.is tt

pub returns-in-78 : goal.returns-in-78
unfolding listed
returns-in-78 c = held c.in-78.is tt

pub returns-in-79 : goal.returns-in-79
unfolding listed
returns-in-79 c = held c.in-79.is tt

pub returns-in-80 : goal.returns-in-80
unfolding listed
returns-in-80 c = held c.in-80.is tt

pub returns-in-81 : goal.returns-in-81
unfolding listed
returns-in-81 c = held c.in-81.is tt

pub returns-in-82 : goal.returns-in-82
unfolding listed
returns-in-82 c = held c.in-82.is tt

pub returns-in-83 : goal.returns-in-83
unfolding listed
returns-in-83 c = held c.in-83.is tt

pub returns-in-84 : goal.returns-in-84
unfolding listed
returns-in-84 c = held c.in-84.is tt

pub returns-in-85 : goal.returns-in-85
unfolding listed
returns-in-85 c = held c.in-85.is tt

pub returns-in-86 : goal.returns-in-86
unfolding listed
returns-in-86 c = held c.in-86.is tt

pub returns-in-87 : goal.returns-in-87
unfolding listed
returns-in-87 c = held c.in-87.is tt

pub returns-in-88 : goal.returns-in-88
unfolding listed
returns-in-88 c = held c.in-88.is tt

pub returns-in-89 : goal.returns-in-89
unfolding listed
returns-in-89 c = held c.in-89.is tt

pub returns-in_default : goal.returns-in_default
unfolding listed
returns-in_default c = held_last c.in_default.in_default-own.rest c.requires tt
