mod LevelCases
